use Rattle.std.proofs.Common.{◌≡◌, ◌++◌, drop, map}
use Rattle.otap_groups.specs.declared.entry.ChildEntry.{ChildEntry}
use Rattle.otap_groups.specs.Rows.{id_at}
use Rattle.otap_kept.proofs.places.ids_of.Given as goal

abbrev pub invariant-entries : goal.invariant-entries
invariant-entries l =
    l.found.items ++ map (λ (e : ChildEntry). id_at l.ids e.place) (drop l.entry-index l.entries)
    ≡ map (λ (e : ChildEntry). id_at l.ids e.place) l.entries
