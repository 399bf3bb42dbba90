-- Which rows of attributes continue a run, by what the rows say.
use Rattle.std.proofs.Common.{◌≡◌, ℕ, ◌-◌, ◌<◌, ◌&&◌, true, false, List, [], drop, map, length, refl, sym, ◌∙◌}
use Rattle.std.specs.List.{slice_index_or}
use Rattle.otap_cells.specs.declared.payload.Kind.{Kind}
use Rattle.otap_cells.specs.Cells.{Cell}
use Rattle.otap_cells.specs.Continuing.{AttributeIn, again_of, attribute_in, attribute_is, continues_of, has_attributes, ids_in_front, is_run_kind, says_again}
use Rattle.otap_cells.proofs.Flags.{later_flag}

attribute_again : (kind : Kind) (a b : List Cell) → has_attributes kind ≡ true
    → again_of kind (drop (ids_in_front kind) a) (drop (ids_in_front kind) b) ≡ says_again (drop 1 a) (drop 1 b)
attribute_again kind a b attributes = rw attributes refl

-- a later attribute continues the run of the one before it, or doesn't
pub flag_said : (kind : Kind) (rows : List (List Cell)) (k : ℕ) (before says : AttributeIn)
    → has_attributes kind ≡ true → 0 < k → k < length rows
    → before ≡ attribute_in (drop 1 (slice_index_or rows (k - 1) [])) → says ≡ attribute_in (drop 1 (slice_index_or rows k []))
    → (is_run_kind says.kind && attribute_is before says)
    ≡ slice_index_or (continues_of (again_of kind) (map (drop (ids_in_front kind)) rows)) k false
flag_said kind rows k before says attributes later within seen_before seen =
    rw (seen_before, seen) (sym (later_flag (again_of kind) (drop (ids_in_front kind)) rows k later within
    ∙ attribute_again kind (slice_index_or rows (k - 1) []) (slice_index_or rows k []) attributes))
