-- The tables of each signal hang together by columns of ids.
use Rattle.std.proofs.Common.{◌≡◌, ◌∙◌, ℕ, zero, suc, ◌<◌, List, [], ◌∷◌, drop, get_or, length, codes, Option, None, Some, true, false, refl, sym, ap, subst, arith}
use Rattle.std.specs.Prelude.{Contains}
use Rattle.std.specs.Str.{bytes_eq}
use Rattle.std.proofs.lemmas.Bool.{false≢true}
use Rattle.std.proofs.lemmas.List.{get_or_default}
use Rattle.otlp_model.specs.declared.request.Signal.{Signal}
use Rattle.otlp_model.specs.declared.request.Signal.TheVariants as signal
use Rattle.otap_cells.specs.declared.payload.Kind.{Kind}
use Rattle.otap_cells.specs.declared.payload.Kind.TheVariants as table
use Rattle.otap_checks.specs.declared.signals.Parents.{Parents}
use Rattle.otap_cells.specs.Columns.{is_id_at, name_at, logs, spans, metrics, attrs, deep_attrs, span_events, span_links, number_points, summary_points, hist_points, exemplars}
use Rattle.otap_checks.specs.declared.signals.TableLink.{TableLink}
use Rattle.otap_checks.specs.Links.{links_of, items, parts, attributes_link}

-- a column that is named is one of ids
abbrev pub IsIdOrNone : Kind → Option ℕ → Type 0
IsIdOrNone kind None = Unit {0}
IsIdOrNone kind (Some column) = is_id_at kind column ≡ true

-- parents are in a column of ids, and their ids in another table's column, which isn't one of parents
pub record IsAbove (kind : Kind) (p : Parents) : Type 0 where
  pub column : is_id_at kind p.column ≡ true
  pub at : is_id_at p.of p.at ≡ true
  pub own : name_at p.of p.at ≡ codes "parent_id" → ⊥

abbrev pub IsAboveOrNone : Kind → Option Parents → Type 0
IsAboveOrNone kind None = Unit {0}
IsAboveOrNone kind (Some p) = IsAbove kind p

pub record IsLinked (link : TableLink) : Type 0 where
  pub own : IsIdOrNone link.kind link.own
  pub parents : IsAboveOrNone link.kind link.parents

abbrev AllLinked : List TableLink → Type 0
AllLinked [] = Unit {0}
AllLinked (link ∷ links) = IsLinked link × AllLinked links

linked_at : (links : List TableLink) (k : ℕ) (d : TableLink) → AllLinked links → k < length links → IsLinked (get_or links k d)
linked_at [] k d all within = absurd (omega arith)
linked_at (link ∷ links) zero d all within = all.0
linked_at (link ∷ links) (suc k) d all within = linked_at links k d all.1 (omega arith)

-- a name that isn't that of parents
differs : (name : List ℕ) → bytes_eq name (codes "parent_id") ≡ false → name ≡ codes "parent_id" → ⊥
differs name miss is = false≢true (sym miss ∙ ap (λ n. bytes_eq n (codes "parent_id")) is)

item : {kind : Kind} → is_id_at kind 0 ≡ true → IsLinked (items kind)
item id = record { own = id; parents = tt }

above : {kind of : Kind} (column at : ℕ) → is_id_at kind column ≡ true → is_id_at of at ≡ true → bytes_eq (name_at of at) (codes "parent_id") ≡ false
    → IsAbove kind (record { column = column; of = of; at = at })
above {of = of} column at id id_there own = record { column = id; at = id_there; own = differs (name_at of at) own }

below : {kind of : Kind} {at : ℕ} → is_id_at kind 0 ≡ true → is_id_at of at ≡ true → bytes_eq (name_at of at) (codes "parent_id") ≡ false → IsLinked (attributes_link kind of at)
below {at = at} id id_there own = record { own = tt; parents = above 0 at id id_there own }

part : {kind of : Kind} {at : ℕ} → is_id_at kind 0 ≡ true → is_id_at kind 1 ≡ true → is_id_at of at ≡ true → bytes_eq (name_at of at) (codes "parent_id") ≡ false → IsLinked (parts kind of at)
part {at = at} own id id_there name = record { own = own; parents = above 1 at id id_there name }

-- the tables of metrics that follow those of points
under_points_linked : AllLinked (drop 6 (links_of signal.Metrics))
unfolding links_of logs spans metrics attrs deep_attrs span_events span_links number_points summary_points hist_points exemplars
under_points_linked = (below refl refl refl, (below refl refl refl, (below refl refl refl, (part refl refl refl refl, (part refl refl refl refl, (below refl refl refl, (below refl refl refl, tt)))))))

all_linked : (of : Signal) → AllLinked (links_of of)
unfolding links_of logs spans metrics attrs deep_attrs span_events span_links number_points summary_points hist_points exemplars
all_linked signal.Logs = (item refl, (below refl refl refl, (below refl refl refl, (below refl refl refl, tt))))
all_linked signal.Traces = (item refl, (below refl refl refl, (below refl refl refl, (below refl refl refl, (part refl refl refl refl, (part refl refl refl refl, (below refl refl refl, (below refl refl refl, tt))))))))
all_linked signal.Metrics = (item refl, (below refl refl refl, (below refl refl refl, (part refl refl refl refl, (part refl refl refl refl, (part refl refl refl refl, under_points_linked))))))

pub is_linked : (of : Signal) (links : List TableLink) (k : ℕ) (d : TableLink) → links ≡ links_of of → k < length links → IsLinked (get_or links k d)
is_linked of links k d are within = linked_at links k d (subst AllLinked (sym are) (all_linked of)) within

-- ---- the tables of parents are there

abbrev HasParents : List TableLink → Option Parents → Type 0
HasParents links None = Unit {0}
HasParents links (Some parents) = (other : TableLink) × Contains links other × (other.kind ≡ parents.of)

abbrev AllHaveParents : List TableLink → List TableLink → Type 0
AllHaveParents all [] = Unit {0}
AllHaveParents all (link ∷ links) = HasParents all link.parents × AllHaveParents all links

parents_at : (all links : List TableLink) (k : ℕ) (d : TableLink) → AllHaveParents all links → k < length links → HasParents all (get_or links k d).parents
parents_at all [] k d have within = absurd (omega arith)
parents_at all (link ∷ links) zero d have within = have.0
parents_at all (link ∷ links) (suc k) d have within = parents_at all links k d have.1 (omega arith)

-- below the link at a place of this list
below_at : (all : List TableLink) (k : ℕ) (of : Kind) → k < length all → (get_or all k (items of)).kind ≡ of → (other : TableLink) × Contains all other × (other.kind ≡ of)
below_at all k of within is = let other : TableLink = get_or all k (items of) in (other, (k, within, get_or_default all k other (items of) within), is)

all_have_parents : (of : Signal) → AllHaveParents (links_of of) (links_of of)
unfolding links_of
all_have_parents signal.Logs =
    let main = below_at (links_of signal.Logs) 0 table.Logs (omega arith) refl in (tt, (main, (main, (main, tt))))
all_have_parents signal.Traces =
    let at = below_at (links_of signal.Traces) in
    let main = at 0 table.Spans (omega arith) refl in
    (tt, (main, (main, (main, (main, (main, (at 4 table.SpanEvents (omega arith) refl, (at 5 table.SpanLinks (omega arith) refl, tt))))))))
all_have_parents signal.Metrics =
    let at = below_at (links_of signal.Metrics) in
    let main = at 0 table.Metrics (omega arith) refl in
    let numbers = at 3 table.NumberPoints (omega arith) refl in
    let hists = at 5 table.HistPoints (omega arith) refl in (
      tt,
      (
        main,
        (
          main,
          (
            main,
            (
              main,
              (
                main,
                (
                  numbers,
                  (
                    at 4 table.SummaryPoints (omega arith) refl,
                    (
                      hists,
                      (
                        numbers,
                        (
                          hists,
                          (at 9 table.NumberExemplars (omega arith) refl, (at 10 table.HistExemplars (omega arith) refl, tt)),
                        ),
                      ),
                    ),
                  ),
                ),
              ),
            ),
          ),
        ),
      ),
    )

-- the parents of a listed link are among the listed tables
pub parents_listed : (of : Signal) (link : TableLink) (above : Parents) → Contains (links_of of) link → link.parents ≡ Some above
    → (other : TableLink) × Contains (links_of of) other × (other.kind ≡ above.of)
parents_listed of link above listed is =
    let have : HasParents (links_of of) link.parents =
    subst (λ (l : TableLink). HasParents (links_of of) l.parents) listed.2 (parents_at (links_of of) (links_of of) listed.0 link (all_have_parents of) listed.1) in
    subst (HasParents (links_of of)) is have

pub linked : (of : Signal) (link : TableLink) → Contains (links_of of) link → IsLinked link
linked of link listed = subst IsLinked listed.2 (is_linked of (links_of of) listed.0 link refl listed.1)
