-- `surface::reading::numbers` meets its contract: what the exported reads state, by the payload's bytes.
use mathlib.Core.Path.{◌∙◌}
use Rattle.wire.specs.Bytes.{Bytes}
use Rattle.surface.proofs.Payloads.{u8_in, u16_in, u32_in, i8_in, i16_in, i32_in}
use Rattle.surface.proofs.reading.numbers.Goals as goal

pub returns : goal.returns
returns c =
    let s = c.args.payload.now in
    let h : Bytes s = λ i. (c.type_inv.payload i).fits in
    λ j. record {
      byte = (c.coe_read_u8-byte.ensures ∙ u8_in s) j;
      word = (c.coe_read_u16-word.ensures ∙ u16_in s) j;
      long = (c.coe_read_u32-long.ensures ∙ u32_in s) j;
      signed_byte = (c.coe_read_i8-signed_byte.ensures ∙ i8_in s h) j;
      signed_word = (c.coe_read_i16-signed_word.ensures ∙ i16_in s h) j;
      signed_long = (c.coe_read_i32-signed_long.ensures ∙ i32_in s h) j;
    }
