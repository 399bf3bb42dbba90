use Rattle.std.proofs.Common.{ℕ, List, length, ap, ◌∙◌, subst, arith}
use Rattle.flat_tables.specs.Building.{StaysAt, IsParts}
use Rattle.arrow_file.specs.BlockBytes.{blocks_bytes}
use Rattle.arrow_file.proofs.BlocksBack.{length-blocks_bytes}
use Rattle.arrow_file.proofs.FooterBuilt.{footer_built}
use Rattle.arrow_file.proofs.footer.footer_of.Goals as goal

pub returns : goal.returns
returns c =
    let batches : StaysAt (IsParts 24 (blocks_bytes c.args.blocks.now)) c.add_parts-2.new.self c.in_ok-batches.batches =
    subst (λ (parts : List ℕ). StaysAt (IsParts 24 parts) c.add_parts-2.new.self c.in_ok-batches.batches) (c.deref.ensures.value ∙ c.in_ok-bytes.ensures.value)
    c.in_ok-batches.ensures.parts in
    footer_built c.args.builder c.add_parts.new.self c.add_parts-2.new.self c.add_table.new.self c.in_ok-footer.footer.items c.args.blocks.now c.args.schema
    c.in_ok-dictionaries.dictionaries c.in_ok-batches.batches c.in_ok-root.root
    c.in_ok-dictionaries.ensures.grows c.in_ok-batches.ensures.grows c.in_ok-root.ensures.grows c.in_ok-dictionaries.ensures.parts batches c.in_ok-bytes.ensures.fit
    c.in_ok-root.ensures.slots c.in_ok-footer.ensures.grows c.in_ok-footer.ensures.root c.in_ok-footer.ensures.aligned.padded c.in_ok-root.ensures.place c.in_ok-footer.ensures.zeros
    (omega (
      arith,
      c.in_ok-dictionaries.ensures.size,
      c.in_ok-batches.ensures.size,
      c.in_ok-root.ensures.size,
      c.in_ok-footer.ensures.size,
      ap length (c.deref.ensures.value ∙ c.in_ok-bytes.ensures.value),
      length-blocks_bytes c.args.blocks.now,
      c.requires.room,
      c.requires.few,
    ))
