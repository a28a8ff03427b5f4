-- `services::packing::upload_segment` meets its contract: its headers joined are the frame.
use mathlib.Core.Path.{ap, ◌∙◌}
use mathlib.Core.List.{[], ◌∷◌, ◌++◌}
use Rattle.wire.proofs.Bytes.{spelled}
use Rattle.mailbox.specs.Headers.{mailbox_header_bytes, coe_header_bytes}
use Rattle.mailbox.specs.declared.numbers.CoeService.TheVariants.{SdoRequest}
use Rattle.services.specs.Requests.{mailbox_of}
use Rattle.services.proofs.Requests.{segment_is}
use Rattle.services.proofs.packing.upload_segment.Goals as goal

pub returns : goal.returns
returns c =
    let a = c.args in
    let b = c.pack.result in
    c.joined.ensures
    ∙ ap (λ l. mailbox_header_bytes (mailbox_of 10 a.counter) ++ (coe_header_bytes (record { service = SdoRequest }) ++ ((l ++ (0 ∷ 0 ∷ 0 ∷ [])) ++ (0 ∷ 0 ∷ 0 ∷ 0 ∷ [])))) (spelled 1 b c.pack.type_inv.1.0.1)
    ∙ rw (c.pack.ensures, c.segment_header.ensures)
    (segment_is a.counter a.toggle)
