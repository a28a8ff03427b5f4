-- A test for one of the listed values is the definitions' test for its number. Assumes nothing.
use mathlib.Core.Path.{◌≡◌, refl}
use denote.Enum.Bare.{sameb}
use lib.Dec.{eqb}
use Rattle.mailbox.specs.Numbers.{type_number, service_number, operation_number}
use Rattle.mailbox.specs.contracts.numbers.MailboxType as mailbox_type
use Rattle.mailbox.specs.contracts.numbers.CoeService as coe_service
use Rattle.mailbox.specs.contracts.numbers.SdoInfoOpCode as op_code
use Rattle.mailbox.specs.declared.numbers.MailboxType.{MailboxType}
use Rattle.mailbox.specs.declared.numbers.MailboxType.TheVariants.{Coe}
use Rattle.mailbox.specs.declared.numbers.CoeService.{CoeService}
use Rattle.mailbox.specs.declared.numbers.CoeService.TheVariants.{Emergency}
use Rattle.mailbox.specs.declared.numbers.SdoInfoOpCode.{SdoInfoOpCode}
use Rattle.mailbox.specs.declared.numbers.SdoInfoOpCode.TheVariants.{GetObjectDescriptionListResponse}

pub type_3 : (t : MailboxType) → eqb (type_number t) 3 ≡ sameb mailbox_type.the_type t Coe
type_3 Coe = refl
type_3 other = refl

pub service_1 : (v : CoeService) → eqb (service_number v) 1 ≡ sameb coe_service.the_type v Emergency
service_1 Emergency = refl
service_1 other = refl

pub operation_2 : (o : SdoInfoOpCode) → eqb (operation_number o) 2 ≡ sameb op_code.the_type o GetObjectDescriptionListResponse
operation_2 GetObjectDescriptionListResponse = refl
operation_2 other = refl
