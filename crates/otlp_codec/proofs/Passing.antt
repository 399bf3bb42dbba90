-- What one pass over the fields of a message keeps.
use Rattle.std.proofs.Common.{◌≡◌, ℕ, ◌<◌, List, [], ◌∷◌, length, set, Bool, false, refl, sym, ap, ◌∙◌, subst}
use Rattle.std.specs.Prelude.{fold, slice_index_or, ◌==◌, not, None}
use Rattle.otlp_wire.specs.Wire.{Entry}
use Rattle.otlp_wire.specs.Fields.{fields_of, end_of}
use Rattle.otlp_messages.specs.declared.messages.Message.{Message}
use Rattle.otlp_messages.specs.declared.messages.Defect.{Defect}
use Rattle.otlp_messages.specs.Limits.{mark_limit}
use Rattle.otlp_messages.specs.Table.{kind_of, mark_of}
use Rattle.otlp_messages.specs.Defects.{IsFine}
use Rattle.otlp_messages.specs.Fine.{FineValue}
use Rattle.otlp_messages.proofs.Steps.{checked_none, checked_more, fine_from, first_occurs, value_stands, Checked}
use Rattle.otlp_codec.specs.declared.refusal.ReadRefusal.{ReadRefusal}
use Rattle.otlp_codec.specs.declared.refusal.ReadRefusal.TheVariants.{BadMessage, Repeated, BadUtf8, BadLength, Unsupported, TooDeep, Memory}
use Rattle.otlp_codec.specs.Refusals.{HoldsNamed}
use Rattle.otlp_codec.specs.PartRefusals.{Refuses, RefusesValue}

-- what is read so far, and what is left; the fields that are read have no defect
pub record PassesFields {A : Type 0} (message : Message) (levels : ℕ) (step : A → Entry → A) (none : A) (bytes : List ℕ) (seen : List Bool) (rest : List ℕ) (now : A) : Type 0 where
  pub checked : Checked message levels bytes seen rest
  pub read : fold step now (fields_of rest) ≡ fold step none (fields_of bytes)

pub names_map : (refusal : ReadRefusal) (P Q : Defect → Type 0) → ((e : Defect) → P e → Q e) → HoldsNamed refusal P → HoldsNamed refusal Q
names_map BadMessage P Q f h = f _ h
names_map Repeated P Q f h = f _ h
names_map BadUtf8 P Q f h = f _ h
names_map BadLength P Q f h = f _ h
names_map Unsupported P Q f h = f _ h
names_map TooDeep P Q f h = f _ h
names_map (Memory error) P Q f h = h

pub passes_none : {A : Type 0} (m : Message) (l : ℕ) (step : A → Entry → A) (none : A) (bytes : List ℕ) (seen : List Bool)
    → length seen ≡ mark_limit → ((k : ℕ) → slice_index_or seen k false ≡ false) → PassesFields m l step none bytes seen bytes none
passes_none m l step none bytes seen size unseen = record { checked = checked_none m l bytes seen size unseen; read = refl }

pub passes_more : {A : Type 0} (m : Message) (l : ℕ) (step : A → Entry → A) (none : A) (bytes rest new : List ℕ) (seen : List Bool) (old now : A) (f : Entry) (mark : ℕ)
    → PassesFields m l step none bytes seen rest old → (fields_of rest ≡ f ∷ fields_of new) × (end_of rest ≡ end_of new)
    → mark ≡ mark_of m f.number → mark < mark_limit → slice_index_or seen mark false ≡ false → now ≡ step old f → FineValue (kind_of m f.number) l f.value
    → PassesFields m l step none bytes (set seen mark (not (mark == 0))) new now
passes_more m l step none bytes rest new seen old now f mark h first is few fresh said fine = record {
  checked = subst (λ (k : ℕ). k < mark_limit → slice_index_or seen k false ≡ false → Checked m l bytes (set seen k (not (k == 0))) new) (sym is)
      (λ few' fresh'. checked_more m l bytes rest new seen f h.checked first.0 first.1 few' fresh' fine) few fresh;
  read = ap (λ a. fold step a (fields_of new)) said ∙ sym (ap (fold step old) first.0) ∙ h.read;
}

pub passes_all : {A : Type 0} (m : Message) (l : ℕ) (step : A → Entry → A) (none : A) (bytes rest : List ℕ) (seen : List Bool) (now : A)
    → PassesFields m l step none bytes seen rest now → (fields_of rest ≡ []) × (end_of rest ≡ None)
    → IsFine m l bytes × (now ≡ fold step none (fields_of bytes))
passes_all m l step none bytes rest seen now h last =
    (fine_from m l bytes rest seen h.checked last.0 last.1, ap (fold step now) (sym last.0) ∙ h.read)

-- a field that is refused
pub refused_value : {A : Type 0} (m : Message) (l : ℕ) (step : A → Entry → A) (none : A) (bytes rest new : List ℕ) (seen : List Bool) (now : A) (f : Entry) (refusal : ReadRefusal)
    → PassesFields m l step none bytes seen rest now → (fields_of rest ≡ f ∷ fields_of new) × (end_of rest ≡ end_of new)
    → RefusesValue (kind_of m f.number) l f.value refusal → Refuses m l bytes refusal
refused_value m l step none bytes rest new seen now f refusal h first fault =
    names_map refusal _ _ (λ e stands. value_stands m l bytes f.number f.value e (first_occurs m l bytes rest new seen f h.checked first.0) stands) fault
