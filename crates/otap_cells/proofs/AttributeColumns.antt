-- The columns of attributes, whatever their kind.
use Rattle.std.proofs.Common.{◌≡◌, true, refl, subst}
use Rattle.otap_cells.specs.declared.payload.Kind.{Kind}
use Rattle.otap_cells.specs.declared.payload.Kind.TheVariants as table
use Rattle.otap_cells.specs.declared.profile.Base.TheVariants as base
use Rattle.otap_cells.specs.Columns.{attrs, deep_attrs, span_events, span_links, width_of, base_at}
use Rattle.otap_cells.specs.Continuing.{has_attributes}

pub attribute_width : (kind : Kind) → has_attributes kind ≡ true → width_of kind ≡ 9
unfolding attrs deep_attrs
attribute_width table.ResourceAttrs e = refl
attribute_width table.ScopeAttrs e = refl
attribute_width table.LogAttrs e = refl
attribute_width table.SpanAttrs e = refl
attribute_width table.EventAttrs e = refl
attribute_width table.LinkAttrs e = refl
attribute_width table.NumberPointAttrs e = refl
attribute_width table.SummaryPointAttrs e = refl
attribute_width table.HistPointAttrs e = refl
attribute_width table.NumberExemplarAttrs e = refl
attribute_width table.HistExemplarAttrs e = refl
attribute_width _ e = absurd cc

pub attribute_type : (kind : Kind) → has_attributes kind ≡ true → base_at kind 2 ≡ base.U8
unfolding attrs deep_attrs
attribute_type table.ResourceAttrs e = refl
attribute_type table.ScopeAttrs e = refl
attribute_type table.LogAttrs e = refl
attribute_type table.SpanAttrs e = refl
attribute_type table.EventAttrs e = refl
attribute_type table.LinkAttrs e = refl
attribute_type table.NumberPointAttrs e = refl
attribute_type table.SummaryPointAttrs e = refl
attribute_type table.HistPointAttrs e = refl
attribute_type table.NumberExemplarAttrs e = refl
attribute_type table.HistExemplarAttrs e = refl
attribute_type _ e = absurd cc

-- those of events and of links
pub event_width : (kind : Kind) → table.SpanEvents ≡ kind → width_of kind ≡ 5
unfolding span_events
event_width kind e = subst (λ (k : Kind). width_of k ≡ 5) e refl

pub link_width : (kind : Kind) → table.SpanLinks ≡ kind → width_of kind ≡ 7
unfolding span_links
link_width kind e = subst (λ (k : Kind). width_of k ≡ 7) e refl
