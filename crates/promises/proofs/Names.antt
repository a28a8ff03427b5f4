-- The names are those of the tables. Assumes nothing.
use mathlib.Core.Path.{◌≡◌, refl, sym, ap, ◌∙◌}
use mathlib.Core.Bool.{false, false≢true}
use mathlib.Core.List.{List, [], ◌∷◌, map}
use Prim.Native.Nat.{ℕ, ◌%◌}
use native.Mathlib.Omega.{arith}
use Rattle.std.specs.Prelude.{Ok}
use Rattle.mailbox.specs.Numbers.{priority_number, priority_of, type_number, types, type_of, service_number, services, service_of, command_number, commands, command_of, operation_number, operations, operation_of}
use Rattle.mailbox.specs.AbortCodes.{abort_rows, abort_numbers, abort_of}
use Rattle.mailbox.specs.Listed.{look_up}
use Rattle.mailbox.specs.declared.numbers.Priority.TheVariants.{Lowest, Low, High, Highest}
use Rattle.mailbox.specs.declared.abort_code.CoeAbortCode.TheVariants.{Unknown}
use Rattle.mailbox.proofs.Ascending.{ascends}
use Rattle.mailbox.proofs.AbortCodes.{in_order}
use Rattle.judge.specs.Answers.{one_of}
use Rattle.promises.specs.Names.{NamedAsListed}
use Rattle.promises.proofs.Lines.{LookIn, missing, present, look}

-- a number that no name has
not_found : {A R : Type 0} (number : A → ℕ) (found : A → R) (none : R) (l : List A) (n : ℕ) → one_of (map number l) n ≡ false
    → look_up number found none l n ≡ none
not_found number found none l n h = go (look number found none n l)
  where
    go : LookIn number found none n l → look_up number found none l n ≡ none
    go (missing e m) = e
    go (present a k e m) = absurd (false≢true (sym h ∙ m))

cut : (n : ℕ) → n % 4 ≡ n % 4 % 4
cut n = omega arith

pub named_as_listed : NamedAsListed
unfolding priority_of type_of service_of command_of operation_of abort_of
named_as_listed = record {
  priority = record { by_number = refl; by_name = refl; otherwise = λ n h. ap (look_up priority_number (λ p. p) Highest (Lowest ∷ Low ∷ High ∷ [])) (cut n) };
  type = record { by_number = refl; by_name = refl; otherwise = not_found type_number Ok _ types };
  service = record { by_number = refl; by_name = refl; otherwise = not_found service_number Ok _ services };
  specifier = record { by_number = refl; by_name = refl; otherwise = not_found command_number Ok _ commands };
  operation = record { by_number = refl; by_name = refl; otherwise = not_found operation_number Ok _ operations };
  abort_code = record { by_number = refl; by_name = refl; otherwise = λ n. not_found (λ r. r.0) (λ r. r.1) (Unknown n) abort_rows n };
  thirty = refl;
  listed = refl;
  ordered = ascends abort_numbers in_order;
  unknown = λ n. refl;
}
