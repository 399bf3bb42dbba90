-- Where a signal's rules are kept, one after the other, nothing is wrong with its rows.
use Rattle.std.proofs.Common.{List, [], ◌∷◌, refl, inr}
use Rattle.std.specs.Prelude.{All, Contains}
use Rattle.std.proofs.lemmas.List.Elements.{All-cons, All-nil}
use Rattle.otlp_model.specs.declared.request.Signal.{Signal}
use Rattle.otap_cells.specs.declared.payload.Kind.{Kind}
use Rattle.otap_cells.specs.Named.{table_named}
use Rattle.otap_cells.specs.Tables.{Table}
use Rattle.otap_groups.specs.Disagree.{Disagree}
use Rattle.otap_groups.specs.Kinds.{IsMain}
use Rattle.otap_attrs.specs.declared.refusal.RowRefusal.{RowRefusal}
use Rattle.otap_attrs.specs.declared.refusal.RowRefusal.TheVariants as why
use Rattle.otap_checks.specs.IdDefects.{IdDefect}
use Rattle.otap_checks.specs.Known.{Knows}
use Rattle.otap_checks.specs.Reading.{Disagrees, main_rows_in}
use Rattle.otap_checks.specs.RowDefects.{RowDefect}
use Rattle.otap_checks.specs.Ruled.{Keeps}
use Rattle.otap_checks.specs.Rules.{rule, rules_of}
use Rattle.otap_checks.specs.declared.known.ColumnIds.{ColumnIds}
use Rattle.otap_checks.specs.declared.signals.Asks.TheVariants as asks
use Rattle.otap_checks.specs.declared.signals.CellRule.{CellRule}
use Rattle.otap_checks.proofs.RulesDecided.{agree_alone}
use Rattle.otap_checks.proofs.RulesFit.{all_kept}
use Rattle.otap_checks.proofs.TableIds.{disagrees_too, has_them}

abbrev pub AllKept : List Table → List CellRule → Type 0
AllKept tables [] = Unit {0}
AllKept tables (rule ∷ rules) = Keeps tables rule × AllKept tables rules

each_kept : (tables : List Table) (rules : List CellRule) → AllKept tables rules → All (Keeps tables) rules
each_kept tables [] kept = All-nil (Keeps tables)
each_kept tables (rule ∷ rules) kept = All-cons (Keeps tables) rule rules kept.0 (each_kept tables rules kept.1)

pub none_wrong : (of : Signal) (tables : List Table) → ((kind : Kind) (why : RowRefusal) → IdDefect of tables kind why → ⊥) → AllKept tables (rules_of of)
    → (kind : Kind) (why : RowRefusal) → RowDefect of tables kind why → ⊥
none_wrong of tables ids kept = all_kept of (rules_of of) tables refl ids (each_kept tables (rules_of of) kept)

-- rows of one id agree, where they do
pub keeps_agree : (tables : List Table) (kind : Kind) → (Disagrees (table_named kind tables) → ⊥) → Keeps tables (rule kind asks.Agree)
keeps_agree tables kind alike = agree_alone tables (table_named kind tables) alike

-- where nothing is wrong, the main rows agree
pub rows_agree : (of : Signal) (tables : List Table) (known : List ColumnIds) (kind : Kind) → ((kind : Kind) (why : RowRefusal) → RowDefect of tables kind why → ⊥)
    → Contains (rules_of of) (rule kind asks.Agree) → IsMain kind → Knows (table_named kind tables) kind known → Disagree (main_rows_in (table_named kind tables)) → ⊥
rows_agree of tables known kind clean listed main knows unlike =
    let t : Table = table_named kind tables in
    clean kind why.Disagree (inr (record {
      rule = rule kind asks.Agree;
      listed = listed;
      names = refl;
      is = disagrees_too t (has_them t 1 _ (knows 1 main.resource_id).are) (has_them t 4 _ (knows 4 main.scope_id).are) unlike;
    }))
