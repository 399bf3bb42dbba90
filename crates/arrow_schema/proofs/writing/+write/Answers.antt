use Rattle.std.proofs.Common.{◌≡◌, ℕ, ◌∷◌, [], List, true, sym, ap, ◌∙◌, subst, arith}
use Rattle.std.specs.Prelude.{IsTrue}
use Rattle.lists.proofs.Every.{all_pass_at}
use Rattle.flat_tables.specs.declared.place.Slot.TheVariants.{U8, At}
use Rattle.flat_tables.specs.Building.{StaysAt, IsText, HasSlots}
use Rattle.flat_tables.proofs.Standing.{stands_on, grows_on}
use Rattle.arrow_schema.specs.declared.spec.FieldSpec.{FieldSpec}
use Rattle.arrow_schema.specs.Trees.{count_of, name_in, kind_in, dict_in, encoding_in, children_in}
use Rattle.arrow_schema.specs.Writing.{names_of, widths_in, widths_fit, named_in, encodings_named, type_slots, WritesFields}
use Rattle.arrow_schema.proofs.FieldTrees.{costs, costs_more, counts_in, widths_below, named_below}
use Rattle.arrow_schema.proofs.FieldsStand.{fields_step, within_step}
use Rattle.arrow_schema.proofs.Written.{dict_slot_on, metadata_slot_on, field_stands, all_fields_stand, grows_over}
use Rattle.arrow_schema.proofs.writing.+write.Goals as goal

pub add_field-add_fields-requires : goal.add_field-add_fields-requires
add_field-add_fields-requires t c =
    let f = c.args.field.now in
    let own : c.as_slice.result.now ≡ children_in f = c.as_slice.ensures in
    let cost = costs f in
    let fit : IsTrue (widths_fit c.as_slice.result.now) = subst (λ (fields : List FieldSpec). IsTrue (widths_fit fields)) (sym own) (widths_below f c.requires.widths) in
    let named : IsTrue (encodings_named c.as_slice.result.now) = subst (λ (fields : List FieldSpec). IsTrue (encodings_named fields)) (sym own) (named_below f c.requires.encodings).1 in
    (omega (arith, cost.1, ap count_of own), (fit, (named, omega (arith, c.requires.room, cost.0, cost.1, ap names_of own, ap count_of own))))

pub add_field-returns-in_err-dict-clause-grows : goal.add_field-returns-in_err-dict-clause-grows
add_field-returns-in_err-dict-clause-grows t c =
    grows_on c.args.builder.now c.add_type.new.builder c.add_dictionary.new.builder
    (grows_over c.args.builder.now c.add_fields.new.builder c.add_text.new.self c.add_type.new.builder c.in_ok-children.ensures.grows c.in_ok-name.ensures.grows c.in_ok-kind.ensures.grows)
    c.in_err-dict.ensures.grows

pub add_field-returns-in_err-metadata-clause-grows : goal.add_field-returns-in_err-metadata-clause-grows
add_field-returns-in_err-metadata-clause-grows t c =
    grows_over c.args.builder.now c.add_type.new.builder c.add_dictionary.new.builder c.add_metadata.new.builder
    (grows_over c.args.builder.now c.add_fields.new.builder c.add_text.new.self c.add_type.new.builder c.in_ok-children.ensures.grows c.in_ok-name.ensures.grows c.in_ok-kind.ensures.grows)
    c.in_ok-dict.ensures.grows c.in_err-metadata.ensures.grows

pub add_field-returns-in_err-place-clause-grows : goal.add_field-returns-in_err-place-clause-grows
add_field-returns-in_err-place-clause-grows t c =
    grows_on c.args.builder.now c.add_metadata.new.builder c.add_table.new.self
    (grows_over c.args.builder.now c.add_type.new.builder c.add_dictionary.new.builder c.add_metadata.new.builder
    (grows_over c.args.builder.now c.add_fields.new.builder c.add_text.new.self c.add_type.new.builder c.in_ok-children.ensures.grows c.in_ok-name.ensures.grows c.in_ok-kind.ensures.grows)
    c.in_ok-dict.ensures.grows c.in_ok-metadata.ensures.grows)
    c.in_err-place.ensures.grows

pub add_field-returns-clause-grows : goal.add_field-returns-clause-grows
add_field-returns-clause-grows t c =
    grows_on c.args.builder.now c.add_metadata.new.builder c.add_table.new.self
    (grows_over c.args.builder.now c.add_type.new.builder c.add_dictionary.new.builder c.add_metadata.new.builder
    (grows_over c.args.builder.now c.add_fields.new.builder c.add_text.new.self c.add_type.new.builder c.in_ok-children.ensures.grows c.in_ok-name.ensures.grows c.in_ok-kind.ensures.grows)
    c.in_ok-dict.ensures.grows c.in_ok-metadata.ensures.grows)
    c.in_ok-place.ensures.grows

pub add_field-returns-clause-field : goal.add_field-returns-clause-field
add_field-returns-clause-field t c =
    let f = c.args.field.now in
    let after_fields = c.add_fields.new.builder in
    let after_text = c.add_text.new.self in
    let after_type = c.add_type.new.builder in
    let after_dict = c.add_dictionary.new.builder in
    let after_metadata = c.add_metadata.new.builder in
    let bytes = c.add_table.new.self in
    let from_metadata = c.in_ok-place.ensures.grows in
    let from_dict = grows_on after_dict after_metadata bytes c.in_ok-metadata.ensures.grows from_metadata in
    let from_type = grows_on after_type after_dict bytes c.in_ok-dict.ensures.grows from_dict in
    let from_text = grows_on after_text after_type bytes c.in_ok-kind.ensures.grows from_type in
    let from_fields = grows_on after_fields after_text bytes c.in_ok-name.ensures.grows from_text in
    let own : c.as_slice.result.now ≡ children_in f = c.as_slice.ensures in
    let text : c.as_slice-2.result.now ≡ name_in f = c.as_slice-2.ensures.value in
    field_stands bytes f c.in_ok-children.children c.in_ok-name.name c.in_ok-kind.kind c.in_ok-place.place c.in_ok-dict.dict c.in_ok-metadata.metadata
    (stands_on (WritesFields (children_in f)) after_fields bytes c.in_ok-children.children from_fields
    (subst (λ (fields : List FieldSpec). StaysAt (WritesFields fields) after_fields c.in_ok-children.children) own c.in_ok-children.ensures.fields))
    (stands_on (IsText (name_in f)) after_text bytes c.in_ok-name.name from_text
    (subst (λ (name : List ℕ). StaysAt (IsText name) after_text c.in_ok-name.name) text c.in_ok-name.ensures.text))
    (stands_on (HasSlots (type_slots (kind_in f))) after_type bytes c.in_ok-kind.kind from_type c.in_ok-kind.ensures.kind)
    (dict_slot_on (dict_in f) after_dict bytes c.in_ok-dict.dict from_dict c.in_ok-dict.ensures.dict)
    (metadata_slot_on (encoding_in f) after_metadata bytes c.in_ok-metadata.metadata from_metadata c.in_ok-metadata.ensures.metadata)
    (subst (λ (n : ℕ). StaysAt (HasSlots (At c.in_ok-name.name ∷ U8 1 ∷ U8 n ∷ At c.in_ok-kind.kind ∷ c.in_ok-dict.dict ∷ At c.in_ok-children.children ∷ c.in_ok-metadata.metadata ∷ [])) bytes c.in_ok-place.place)
    c.number.ensures c.in_ok-place.ensures.slots)

pub add_fields-add_field-requires : goal.add_fields-add_field-requires
add_fields-add_field-requires t c =
    let fields = c.args.fields.now in
    let i = c.loop-field.field-index in
    let f = c.field-item.result in
    let more = costs_more fields i f (omega arith) c.field-item.is in
    let fit : widths_in f ≡ true = ap widths_in c.field-item.is ∙ all_pass_at widths_in fields i f c.requires.widths (omega arith) in
    let named : named_in f ≡ true = ap named_in c.field-item.is ∙ all_pass_at named_in fields i f c.requires.encodings (omega arith) in
    (omega (arith, counts_in fields i f (omega arith) c.field-item.is), (fit, (named, omega (arith, c.loop-field.invariant.cost, c.requires.room, more.0, more.1))))

pub add_fields-loop-field-preserved : goal.add_fields-loop-field-preserved
add_fields-loop-field-preserved t c =
    let fields = c.args.fields.now in
    let places = c.loop-field.places.items in
    let i = c.loop-field.field-index in
    let f = c.field-item.result in
    let old = c.loop-field.builder in
    let new = c.add_field.new.builder in
    let place = c.in_ok-add_field.field-0 in
    let pushed = c.in_ok-push.ensures.items in
    let grows = c.in_ok-add_field.ensures.grows in
    let more = costs_more fields i f (omega arith) c.field-item.is in
    record {
      stand = fields_step fields places c.push.new.self.items i f place old new (omega arith) c.field-item.is pushed grows c.loop-field.invariant.stand c.in_ok-add_field.ensures.field;
      grown = grows_on c.args.builder.now old new c.loop-field.invariant.grown grows;
      within = within_step places c.push.new.self.items place old new pushed grows c.loop-field.invariant.within c.in_ok-add_field.ensures.field.inside;
      size = search (arith);
      cost = omega (arith, c.loop-field.invariant.cost, c.in_ok-add_field.ensures.size, more.0, more.1);
    }

pub add_fields-returns-clause-fields : goal.add_fields-returns-clause-fields
add_fields-returns-clause-fields t c =
    let fields = c.args.fields.now in
    let i = c.loop-field.field-index in
    all_fields_stand fields c.loop-field.places.items c.deref.result.now i c.in_ok-place.place c.loop-field.builder c.add_places.new.self
    (omega arith) c.deref.ensures.value c.loop-field.invariant.stand c.in_ok-place.ensures.grows c.in_ok-place.ensures.places
