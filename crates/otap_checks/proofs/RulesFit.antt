-- Each rule fits its table, whose ids are given and known.
use Rattle.std.proofs.Common.{◌≡◌, ℕ, zero, suc, ◌<◌, List, [], ◌∷◌, get_or, length, refl, sym, subst, arith, inl, inr}
use Rattle.std.specs.Prelude.{All, Contains}
use Rattle.std.proofs.lemmas.List.{get_or_default}
use Rattle.otlp_model.specs.declared.request.Signal.{Signal}
use Rattle.otlp_model.specs.declared.request.Signal.TheVariants as signal
use Rattle.otap_cells.specs.declared.payload.Kind.{Kind}
use Rattle.otap_cells.specs.declared.payload.Kind.TheVariants as table
use Rattle.otap_cells.specs.Columns.{attrs, deep_attrs, exemplars, hist_points, logs, number_points, summary_points}
use Rattle.otap_cells.specs.Named.{table_named}
use Rattle.otap_cells.specs.Tables.{Table}
use Rattle.otap_attrs.specs.declared.refusal.RowRefusal.{RowRefusal}
use Rattle.otap_checks.specs.Links.{links_of, items}
use Rattle.otap_checks.specs.IdDefects.{IdDefect}
use Rattle.otap_checks.specs.Known.{KnowsAll, Knows}
use Rattle.otap_checks.specs.declared.known.ColumnIds.{ColumnIds}
use Rattle.otap_checks.specs.declared.signals.TableLink.{TableLink}
use Rattle.otap_checks.specs.declared.signals.Asks.{Asks}
use Rattle.otap_checks.specs.declared.signals.Asks.TheVariants as asks
use Rattle.otap_checks.specs.declared.signals.CellRule.{CellRule}
use Rattle.otap_checks.specs.RowDefects.{Breaks, RowDefect}
use Rattle.otap_checks.specs.Ruled.{AreGivenFor, FitsRule, Keeps, KnowsMetrics}
use Rattle.otap_checks.specs.Rules.{rules_of}
use Rattle.otap_checks.proofs.MainKinds.{logs_are_main, metrics_are_main, spans_are_main}
use Rattle.otap_checks.proofs.TableIds.{clean_given}

-- ---- the kind of each

abbrev AllFit : List CellRule → Type 0
AllFit [] = Unit {0}
AllFit (rule ∷ rules) = FitsRule rule × AllFit rules

all_fit : (of : Signal) → AllFit (rules_of of)
unfolding rules_of logs attrs deep_attrs number_points summary_points hist_points exemplars
all_fit signal.Logs = (record { names = refl; bases = refl }, (record { names = refl; bases = refl }, (record { names = refl; bases = refl }, (record { names = refl; bases = refl }, (logs_are_main, tt)))))
all_fit signal.Traces = (record { names = refl; bases = refl }, (record { names = refl; bases = refl }, (record { names = refl; bases = refl }, (record { names = refl; bases = refl }, (record { names = refl; bases = refl }, (spans_are_main, tt))))))
all_fit signal.Metrics = (
  refl,
  (
    refl,
    (
      (omega arith, omega arith),
      (
        (omega arith, omega arith),
        (
          record { names = refl; bases = refl },
          (
            record { names = refl; bases = refl },
            (
              record { names = refl; bases = refl },
              (
                record { names = refl; bases = refl },
                (
                  refl,
                  (
                    (omega arith, omega arith),
                    (
                      refl,
                      (
                        (omega arith, omega arith),
                        (
                          record { names = refl; bases = refl },
                          (
                            record { names = refl; bases = refl },
                            (
                              record { names = refl; bases = refl },
                              (
                                metrics_are_main,
                                tt,
                              ),
                            ),
                          ),
                        ),
                      ),
                    ),
                  ),
                ),
              ),
            ),
          ),
        ),
      ),
    ),
  ),
)

fits_at : (rules : List CellRule) (k : ℕ) (d : CellRule) → AllFit rules → k < length rules → FitsRule (get_or rules k d)
fits_at [] k d all within = absurd (omega arith)
fits_at (r ∷ rules) zero d all within = all.0
fits_at (r ∷ rules) (suc k) d all within = fits_at rules k d all.1 (omega arith)

pub rules_fit : (of : Signal) (rules : List CellRule) → rules ≡ rules_of of → (k : ℕ) (d : CellRule) → k < length rules → FitsRule (get_or rules k d)
rules_fit of rules are k d within = fits_at rules k d (subst AllFit (sym are) (all_fit of)) within

pub rule_fits : (of : Signal) (rule : CellRule) → Contains (rules_of of) rule → FitsRule rule
rule_fits of rule listed = subst FitsRule listed.2 (rules_fit of (rules_of of) refl listed.0 rule listed.1)

-- ---- its table, and that of metrics

abbrev HasLink : Signal → Kind → Type 0
HasLink of kind = (link : TableLink) × Contains (links_of of) link × (link.kind ≡ kind)

-- a rule for points is one of metrics
abbrev HasMetrics : Signal → Asks → Type 0
HasMetrics of (asks.OfShape sort) = HasLink of table.Metrics
HasMetrics of _ = Unit {0}

abbrev IsLinked : Signal → CellRule → Type 0
IsLinked of rule = HasLink of rule.kind × HasMetrics of rule.asks

abbrev AllLinked : Signal → List CellRule → Type 0
AllLinked of [] = Unit {0}
AllLinked of (rule ∷ rules) = IsLinked of rule × AllLinked of rules

at : (of : Signal) (k : ℕ) (kind : Kind) → k < length (links_of of) → (get_or (links_of of) k (items kind)).kind ≡ kind → HasLink of kind
at of k kind within is = let link : TableLink = get_or (links_of of) k (items kind) in (link, (k, within, get_or_default (links_of of) k link (items kind) within), is)

all_linked : (of : Signal) → AllLinked of (rules_of of)
unfolding rules_of links_of
all_linked signal.Logs = let l = at signal.Logs in (
  (l 0 table.Logs (omega arith) refl, tt),
  (
    (l 1 table.ResourceAttrs (omega arith) refl, tt),
    (
      (l 2 table.ScopeAttrs (omega arith) refl, tt),
      (
        (l 3 table.LogAttrs (omega arith) refl, tt),
        (
          (l 0 table.Logs (omega arith) refl, tt),
          tt,
        ),
      ),
    ),
  ),
)
all_linked signal.Traces = let l = at signal.Traces in (
  (l 1 table.ResourceAttrs (omega arith) refl, tt),
  (
    (l 2 table.ScopeAttrs (omega arith) refl, tt),
    (
      (l 3 table.SpanAttrs (omega arith) refl, tt),
      (
        (l 6 table.EventAttrs (omega arith) refl, tt),
        (
          (l 7 table.LinkAttrs (omega arith) refl, tt),
          (
            (l 0 table.Spans (omega arith) refl, tt),
            tt,
          ),
        ),
      ),
    ),
  ),
)
all_linked signal.Metrics = let l = at signal.Metrics in (
  (l 0 table.Metrics (omega arith) refl, tt),
  (
    (l 3 table.NumberPoints (omega arith) refl, l 0 table.Metrics (omega arith) refl),
    (
      (l 3 table.NumberPoints (omega arith) refl, tt),
      (
        (l 9 table.NumberExemplars (omega arith) refl, tt),
        (
          (l 1 table.ResourceAttrs (omega arith) refl, tt),
          (
            (l 2 table.ScopeAttrs (omega arith) refl, tt),
            (
              (l 6 table.NumberPointAttrs (omega arith) refl, tt),
              (
                (l 11 table.NumberExemplarAttrs (omega arith) refl, tt),
                (
                  (l 4 table.SummaryPoints (omega arith) refl, l 0 table.Metrics (omega arith) refl),
                  (
                    (l 4 table.SummaryPoints (omega arith) refl, tt),
                    (
                      (l 5 table.HistPoints (omega arith) refl, l 0 table.Metrics (omega arith) refl),
                      (
                        (l 10 table.HistExemplars (omega arith) refl, tt),
                        (
                          (l 7 table.SummaryPointAttrs (omega arith) refl, tt),
                          (
                            (l 8 table.HistPointAttrs (omega arith) refl, tt),
                            (
                              (l 12 table.HistExemplarAttrs (omega arith) refl, tt),
                              (
                                (l 0 table.Metrics (omega arith) refl, tt),
                                tt,
                              ),
                            ),
                          ),
                        ),
                      ),
                    ),
                  ),
                ),
              ),
            ),
          ),
        ),
      ),
    ),
  ),
)

linked_at : (of : Signal) (rules : List CellRule) (k : ℕ) (d : CellRule) → AllLinked of rules → k < length rules → IsLinked of (get_or rules k d)
linked_at of [] k d all within = absurd (omega arith)
linked_at of (r ∷ rules) zero d all within = all.0
linked_at of (r ∷ rules) (suc k) d all within = linked_at of rules k d all.1 (omega arith)

-- the ids of the table of a link
pub known_at : (of : Signal) (tables : List Table) (known : List ColumnIds) → KnowsAll of tables known → (k : ℕ) (kind : Kind) → k < length (links_of of)
    → (get_or (links_of of) k (items kind)).kind ≡ kind → Knows (table_named kind tables) kind known
known_at of tables known knows k kind within is =
    let link = at of k kind within is in subst (λ kind. Knows (table_named kind tables) kind known) link.2 (knows link.0 link.1)

module _ (of : Signal) (tables : List Table) (known : List ColumnIds) (clean : (kind : Kind) (why : RowRefusal) → IdDefect of tables kind why → ⊥)
    (knows : KnowsAll of tables known) where
  known_by : (kind : Kind) → HasLink of kind → Knows (table_named kind tables) kind known
  known_by kind (link, listed, names) = subst (λ kind. Knows (table_named kind tables) kind known) names (knows link listed)

  metrics_by : (asked : Asks) → HasMetrics of asked → KnowsMetrics tables known asked
  metrics_by (asks.OfShape sort) has = known_by table.Metrics has
  metrics_by asks.Agree has = tt
  metrics_by (asks.Values column) has = tt
  metrics_by (asks.OneNumber column) has = tt
  metrics_by (asks.EvenLists first second) has = tt
  metrics_by asks.KnownShape has = tt

  given_by : (rule : CellRule) → IsLinked of rule → AreGivenFor tables known rule
  given_by rule linked = record {
    given = clean_given of tables rule.kind linked.0.0 linked.0.1 linked.0.2 (clean rule.kind);
    known = known_by rule.kind linked.0;
    metrics = metrics_by rule.asks linked.1;
  }

  pub rules_given : (rules : List CellRule) → rules ≡ rules_of of → (k : ℕ) (d : CellRule) → k < length rules → AreGivenFor tables known (get_or rules k d)
  rules_given rules are k d within = given_by (get_or rules k d) (linked_at of rules k d (subst (AllLinked of) (sym are) (all_linked of)) within)

-- ---- where each is kept, nothing is wrong

pub all_kept : (of : Signal) (rules : List CellRule) (tables : List Table) → rules ≡ rules_of of → ((kind : Kind) (why : RowRefusal) → IdDefect of tables kind why → ⊥)
    → All (Keeps tables) rules → (kind : Kind) (why : RowRefusal) → RowDefect of tables kind why → ⊥
all_kept of rules tables are ids kept kind why (inl id) = ids kind why id
all_kept of rules tables are ids kept kind why (inr d) =
    let listed : Contains rules d.rule = subst (λ (rules : List CellRule). Contains rules d.rule) (sym are) d.listed in
    let here : Keeps tables d.rule = subst (Keeps tables) listed.2 (kept listed.0 d.rule listed.1) in
    here why (subst (λ kind. Breaks tables d.rule.asks (table_named kind tables) why) (sym d.names) d.is)
