-- One line of a table of rules after another: where the judge picks by a test, the table has a line with that condition.
-- Assumes nothing.
use mathlib.Core.Path.{◌≡◌, refl, sym}
use mathlib.Core.Bool.{Bool, true, false, not}
use mathlib.Core.List.{List, [], ◌∷◌, map}
use mathlib.Core.Option.{Option, some}
use Prim.Native.Nat.{ℕ}
use borrow.Author.Tests.{eqb-true}
use lib.Dec.{eqb}
use Rattle.wire.specs.Words.{pick, both, either}
use Rattle.wire.proofs.Cases.{by}
use Rattle.wire.specs.Refusal.{number_of}
use Rattle.wire.specs.declared.refusal.Refusal.TheVariants.{Undecodable}
use Rattle.mailbox.specs.Listed.{look_up}
use Rattle.judge.specs.Answers.{answer_of, one_of}
use Rattle.judge.specs.declared.Verdict.{Verdict}
use Rattle.judge.specs.declared.Verdict.TheVariants.{Refused}
use Rattle.promises.specs.Finding.{Finding, finding, refuse}

-- a number looked up among names: none has it, or one has
pub data Look {A R : Type 0} (number : A → ℕ) (found : A → R) (none : R) (n : ℕ) (q : R) (among : Bool) : Type 0 where
  missing : q ≡ none → among ≡ false → Look number found none n q among
  present : (a : A) → number a ≡ n → q ≡ found a → among ≡ true → Look number found none n q among

module _ {A R : Type 0} (number : A → ℕ) (found : A → R) (none : R) (n : ℕ) where
  abbrev pub LookIn : List A → Type 0
  LookIn l = Look number found none n (look_up number found none l n) (one_of (map number l) n)

  further : (a : A) (l : List A) → eqb n (number a) ≡ false → LookIn l → LookIn (a ∷ l)
  further a l m (missing p q) = missing (rw m p) (rw m q)
  further a l m (present b k p q) = present b k (rw m p) (rw m q)

  pub look : (l : List A) → LookIn l
  look [] = missing refl refl
  look (a ∷ l) =
      by (eqb n (number a))
      (λ y. present a (sym (eqb-true n (number a) y)) (rw y) (rw y))
      (λ m. further a l m (look l))

module _ (s : List ℕ) where
  -- x is what the lines tell of a reply with this verdict
  abbrev pub Tells : Verdict → Option Finding → Type 0
  Tells v x = x ≡ some (finding v s)

  pub line : (b : Bool) (v w : Verdict) {x : Option Finding} → Tells w x → Tells (pick b v w) (pick b (some (finding v s)) x)
  line true v w p = refl
  line false v w p = p

  -- two tests, one within the other
  pub guarded : (b c : Bool) (v u w : Verdict) {x : Option Finding} → Tells w x
      → Tells (pick b (pick c v u) w) (pick (both b c) (some (finding v s)) (pick b (some (finding u s)) x))
  guarded true true v u w p = refl
  guarded true false v u w p = refl
  guarded false c v u w p = p

  -- three tests with one answer
  pub any_of : (a b c : Bool) (v w : Verdict) {x : Option Finding} → Tells w x
      → Tells (pick (either a (either b c)) v w)
      (pick a (some (finding v s)) (pick b (some (finding v s)) (pick c (some (finding v s)) x)))
  any_of true b c v w p = refl
  any_of false true c v w p = refl
  any_of false false true v w p = refl
  any_of false false false v w p = p

  -- an unlisted number is 20
  pub listed : {A R : Type 0} {number : A → ℕ} {found : A → R} {none q : R} {n : ℕ} {among : Bool}
      → Look number found none n q among
      → (judged : R → Verdict) → judged none ≡ Refused (number_of Undecodable)
      → {x : Option Finding} → ((a : A) → number a ≡ n → Tells (judged (found a)) x)
      → Tells (judged q) (pick (not among) (some (refuse 0x20)) x)
  unfolding answer_of
  listed (missing e m) judged r p = rw (e, m, r)
  listed (present a k e m) judged r p = rw (e, m) (p a k)
