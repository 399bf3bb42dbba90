-- Whether two pairs are the same pair, as a test, and how often a pair occurs.
use Rattle.std.specs.Prelude.{◌==◌, ◌&&◌, ℕ, Bool, true, false, List, count_by}
use base.Stored.{Gv, gnil, gnum, gcons}
use Rattle.otlp_model.specs.declared.value.Pair.{Pair}
use Rattle.otlp_model.specs.contracts.value.Pair as contract

-- the codes of two values, which are the same exactly where the values are
abbrev pub code_is : Gv → Gv → Bool
code_is gnil gnil = true
code_is (gnum m) (gnum n) = m == n
code_is (gcons a b) (gcons c d) = code_is a c && code_is b d
code_is _ _ = false

unfoldable pub pair_is : Pair → Pair → Bool
pair_is p q = code_is (contract.the_row.coded.code p) (contract.the_row.coded.code q)

-- how often the pair occurs
unfoldable pub occurrences : Pair → List Pair → ℕ
occurrences pair pairs = count_by (pair_is pair) pairs
