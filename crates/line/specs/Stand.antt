-- A stand: any desk that is offered for a machine's calls, whatever it keeps. The desk of `Desk` is one of them, `line_stand`.
-- What a stand tells of a call, T, is the answer and every lent buffer as it is afterwards. Assumes nothing.
use Rattle.std.specs.Prelude.{Bool, true, false, List, [], ◌∷◌, map}
use Rattle.line.specs.Machine.{Machine}
use Rattle.line.specs.Desk.{Pass, Call, Outcome, refused, entered, sent, received, left, Desk, fresh_at, step}

pub record Stand (M : Machine) (T : Type 0) : Type 1 where
  pub State : Type 0
  pub fresh : Pass → State  -- nobody in the line, the next frame at this counter
  pub pass : State → Pass  -- the counter of the next frame
  pub answers : State → Call M → T
  pub next : State → Call M → State

-- a call that was made, with all that it lent, and what was told of it
pub record Event (M : Machine) (T : Type 0) : Type 0 where
  pub call : Call M
  pub told : T

module _ {M : Machine} {T : Type 0} where
  unfoldable pub calls : List (Event M T) → List (Call M)
  calls = map (λ x. x.call)

  module _ (S : Stand M T) where
    -- a sequence of calls, each with what was told of it
    unfoldable pub trace : S.State → List (Call M) → List (Event M T)
    trace s [] = []
    trace s (k ∷ ks) = record { call = k; told = S.answers s k } ∷ trace (S.next s k) ks

    -- and the state after them
    unfoldable pub after : S.State → List (Call M) → S.State
    after s [] = s
    after s (k ∷ ks) = after (S.next s k) ks

module _ (M : Machine) where
  abbrev pub line_stand : Stand M (Outcome M)
  line_stand = record {
    State = Desk M;
    fresh = fresh_at M;
    pass = λ d. d.pass;
    answers = λ d k. (step M d k).1;
    next = λ d k. (step M d k).0;
  }

  -- "Accepted calls are those not answered 1x."
  unfoldable pub is_accepted : Outcome M → Bool
  is_accepted (refused n) = false
  is_accepted entered = true
  is_accepted (sent f) = true
  is_accepted (received a) = true
  is_accepted left = true
