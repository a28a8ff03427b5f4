-- Document 01, "Numbers the desk gives back": the number of each refusal. Assumes nothing.
use Rattle.std.specs.Prelude.{ℕ}
use Rattle.wire.specs.declared.refusal.Refusal.{Refusal}
use Rattle.wire.specs.declared.refusal.Refusal.TheVariants.{NoSuchSeat, SeatTaken, SeatEmpty, NotAtHead, OtherDue, BadOrder, BufferLength, Undecodable, WrongReply, TooLarge, MissingBytes, LengthField, BudgetSpent}

abbrev pub number_of : Refusal → ℕ
number_of NoSuchSeat = 0x10
number_of SeatTaken = 0x11
number_of SeatEmpty = 0x12
number_of NotAtHead = 0x13
number_of OtherDue = 0x14
number_of BadOrder = 0x15
number_of BufferLength = 0x16
number_of Undecodable = 0x20
number_of WrongReply = 0x23
number_of TooLarge = 0x24
number_of MissingBytes = 0x25
number_of LengthField = 0x26
number_of BudgetSpent = 0x27
