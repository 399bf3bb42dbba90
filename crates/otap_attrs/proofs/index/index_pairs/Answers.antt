use Rattle.std.proofs.Common.{◌∙◌, List, ℕ, [], Option, map, drop, length, sym, ap, subst}
use Rattle.std.proofs.lemmas.List.{length-map}
use Rattle.otap_cells.specs.Continuing.{has_attributes}
use Rattle.otap_cells.specs.GivenIds.{HasIds}
use Rattle.otap_groups.specs.Found.{found}
use Rattle.otap_attrs.specs.Defects.{OrphanIn}
use Rattle.otap_attrs.specs.Values.{pair_in}
use Rattle.otap_attrs.proofs.TablePairs.{attribute_id, ids_long, nothing_wrong, pairs_are}
use Rattle.otap_attrs.proofs.index.index_pairs.Goals as goal

pub read_ids-requires : goal.read_ids-requires
read_ids-requires g c = attribute_id _ (ap has_attributes c.requires.kind ∙ c.requires.attributes)

pub new-requires : goal.new-requires
new-requires g c =
    let t = g.R.Rows.table c.args.rows.now in
    ap length c.deref-2.ensures.value ∙ ids_long t 0 c.in_ok-ids.ids.items c.in_ok-ids.ensures.ids ∙ sym (length-map t.rows (drop 1))

pub returns-clause-index : goal.returns-clause-index
returns-clause-index g c =
    let t = g.R.Rows.table c.args.rows.now in
    let own : HasIds t 0 c.deref-2.result.now = subst (HasIds t 0) (sym c.deref-2.ensures.value) c.in_ok-ids.ensures.ids in
    record {
      attributes = ap has_attributes c.requires.kind ∙ c.requires.attributes;
      finds = λ parent.
          ap (λ reader. found (λ id cells. pair_in cells) [] (map (drop 1) (g.R.Rows.table reader.rows.now).rows) c.in_ok-found.found.entries.items parent)
          (sym c.in_ok-found.ensures.reader)
          ∙ c.in_ok-found.ensures.found parent ∙ pairs_are t c.deref-2.result.now parent own;
      weights = c.in_ok-weights.ensures;
    }

pub returns-clause-fine : goal.returns-clause-fine
returns-clause-fine g c =
    nothing_wrong (g.R.Rows.table c.args.rows.now) c.args.parents.now c.in_ok-ids.ids.items c.in_ok-ids.ensures.ids c.in_ok-ids.ensures.parents
    (λ orphan. c.in_ok-has_orphan.ensures.no c.if-branch.false
    (subst (λ (ids : List (Option ℕ)). OrphanIn ids c.args.parents.now) (sym c.deref.ensures.value) orphan))
    c.in_ok-check_values.ensures.ok
