-- What a buffer that grows at its front holds after a write that fails.
use Rattle.std.specs.Prelude.{◌≡◌, ℕ, List, ◌++◌}

-- what was written is still the end of what is there
unfoldable pub KeepsEnd : List ℕ → List ℕ → Type 0
KeepsEnd old new = (front : List ℕ) × (new ≡ front ++ old)
