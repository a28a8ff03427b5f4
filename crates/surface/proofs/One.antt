-- Each shape leaves one answer. Assumes nothing.
use mathlib.Core.Path.{◌≡◌, refl, sym, ap, ◌∙◌}
use mathlib.Core.List.{List, ◌++◌}
use mathlib.Core.Option.{Option, none, some, some-injective}
use Prim.Native.Nat.{ℕ, ◌-◌}
use lib.ListN.{replicate}
use Rattle.wire.specs.Words.{first_of}
use Rattle.wire.specs.Store.{laid}
use Rattle.wire.specs.Fields.{Field}
use Rattle.wire.proofs.One.{one}
use Rattle.mailbox.specs.Fields.{Name}
use Rattle.line.specs.Numbers.{Test}
use Rattle.promises.specs.Finding.{Finding}
use Rattle.promises.proofs.Packed.{packs_one}
use Rattle.surface.specs.Writers.{Stands, Writes}
use Rattle.surface.specs.Judge.{besides, place_at}
use Rattle.surface.specs.One.{Unique}

stands_one : {bytes n : ℕ} {fields : List (Name × ℕ)} {skipped : List Field} (a b : List ℕ)
    → Stands bytes fields skipped n a → Stands bytes fields skipped n b → a ≡ b
stands_one {bytes} {n} {fields} {skipped} a b p q =
    p.in_front
    ∙ ap (λ (f : List ℕ). f ++ replicate (n - bytes) 0)
    (packs_one bytes fields skipped p.frame q.frame p.in_bytes q.in_bytes p.packs q.packs)
    ∙ sym q.in_front

writes_one : (tests : List Test) {bytes : ℕ} {fields : List (Name × ℕ)} {skipped : List Field} {before : List ℕ} (a b : ℕ × List ℕ)
    → Writes tests bytes fields skipped before a.0 a.1 → Writes tests bytes fields skipped before b.0 b.1 → a ≡ b
writes_one tests a b p q = go (first_of tests) refl
  where
    go : (o : Option ℕ) → first_of {A = ℕ} tests ≡ o → a ≡ b
    go (some n) e =
        let u = p.refused n e in
        let v = q.refused n e in
        λ i. (one a.0 b.0 u.0 v.0 i, one a.1 b.1 u.1 v.1 i)
    go none e =
        let u = p.written e in
        let v = q.written e in
        λ i. (one a.0 b.0 u.0 v.0 i, stands_one a.1 b.1 u.1 v.1 i)

pub unique : Unique
unique = record {
  writes = λ tests bytes fields skipped before a b p q. writes_one tests a b p q;
  judges_reply = λ kind i b earlier s d x y p q.
      let same = some-injective p.found q.found (sym p.first ∙ q.first) in
      λ j. (
        (p.told ∙ ap (besides kind s) same ∙ sym q.told) j,
        (p.stored ∙ ap (λ (f : Finding). laid d (place_at kind earlier) f.1) same ∙ sym q.stored) j,
      );
  opens = λ a b p q. one a b p.empty q.empty;
  does = λ d k a b p q. λ i. (
    one a.0 b.0 p.told q.told i,
    one a.1 b.1 p.next q.next i,
    one a.2 b.2 p.left q.left i,
  );
}
