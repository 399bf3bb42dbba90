use Rattle.std.proofs.Common.{◌≡◌, ◌<◌, sym, ap, subst, arith}
use Rattle.otap_cells.specs.declared.payload.Kind.{Kind}
use Rattle.otap_cells.specs.Columns.{width_of}
use Rattle.otap_columns.specs.Known.{place_at}
use Rattle.otap_columns.specs.Views.{ReaderIn}
use Rattle.otap_columns.proofs.Placed.{places_len, place_found}
use Rattle.otap_columns.proofs.reader.Reader.place_of.Goals as goal

pub index-requires : goal.index-requires
index-requires c =
    let below : c.args.column < width_of c.self.inside.kind = subst (λ (k : Kind). c.args.column < width_of k) (sym (ap (λ (r : ReaderIn). r.kind) c.self.view_is)) c.requires in
    omega (arith, below, places_len c.self.inside.kind c.self.inside.arrays c.self.inside.places.items c.self.invariant.places, c.self.inside.places.ok.0)

pub returns : goal.returns
returns c =
    let below : c.args.column < width_of c.self.inside.kind = subst (λ (k : Kind). c.args.column < width_of k) (sym (ap (λ (r : ReaderIn). r.kind) c.self.view_is)) c.requires in
    sym (subst (λ (r : ReaderIn). place_at r.kind r.substream.arrays c.args.column ≡ c.index.result.now) c.self.view_is
    (place_found c.self.inside.kind c.self.inside.arrays c.self.inside.places.items c.args.column c.index.result.now c.self.invariant.places below c.index.ensures))
