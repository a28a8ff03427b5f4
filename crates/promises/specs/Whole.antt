-- A whole transfer: an entry, and its own accepted calls. `Follows` says what they give, call by call (`Goes`), and then what that comes
-- to: how many replies, P, and the payload in the lent buffer. Assumes nothing.
use Rattle.std.specs.Prelude.{◌≡◌, true, List, [], ◌∷◌, ℕ, ◌+◌, ◌≤◌, length}
use Rattle.wire.specs.Words.{within}
use Rattle.judge.specs.Replies.{holding}
use Rattle.line.specs.Lists.{Each, keep}
use Rattle.line.specs.Desk.{enter, send, receive, leave}
use Rattle.line.specs.Stand.{trace}
use Rattle.line.specs.Transfers.{transfers}
use Rattle.transfer.specs.declared.Order.{Order}
use Rattle.desk.specs.Record.{Good}
use Rattle.transfer.specs.Coe.{Told}
use Rattle.desk.specs.Stand.{desk_stand, is_answered}
use Rattle.desk.specs.declared.Desk.{Desk}
use Rattle.promises.specs.Finding.{number, done_of}
use Rattle.promises.specs.Orders.{Fit}
use Rattle.promises.specs.Standing.{Called, Deed, Standing, opened, moved, Goes}

unfoldable pub heard_by : Called → ℕ
heard_by (enter s e) = 0
heard_by (send s b) = 0
heard_by (receive s l) = 1
heard_by (leave s) = 0

-- how many replies were judged
unfoldable pub reply_count : List Deed → ℕ
reply_count [] = 0
reply_count (x ∷ xs) = heard_by x.call + reply_count xs

-- "00: done, payload length P", where P is the length of the chunks, joined; and 27 where the count reaches the budget. Here w is where
-- the transfer stands after the call
unfoldable pub SumsOn : Order → Standing → Called → Told → Type 0
SumsOn o w (enter s e) t = Unit {0}
SumsOn o w (send s b) t = Unit {0}
SumsOn o w (receive s l) t =
    (t.0.number ≡ 0x00 → t.0 ≡ done_of (length w.payload))
    × (t.0.number ≡ 0x27 → w.replies ≡ o.budget)
SumsOn o w (leave s) t = Unit {0}

unfoldable pub Sums : Order → Standing → List Deed → Type 0
Sums o w [] = Unit {0}
Sums o w (x ∷ xs) = SumsOn o (moved o w x.call) x.call x.told × Sums o (moved o w x.call) xs

-- the buffer that a receive lends is the one that held d; and what it holds afterwards
unfoldable pub Lent : List ℕ → Called → Type 0
Lent d (enter s e) = Unit {0}
Lent d (send s b) = Unit {0}
Lent d (receive s l) = l.1 ≡ d
Lent d (leave s) = Unit {0}

unfoldable pub left_by : List ℕ → Called → Told → List ℕ
left_by d (enter s e) t = d
left_by d (send s b) t = d
left_by d (receive s l) t = t.1
left_by d (leave s) t = d

-- "If one buffer was lent to every receive and not altered between", which held d before the calls
unfoldable pub OneBuffer : List ℕ → List Deed → Type 0
OneBuffer d [] = Unit {0}
OneBuffer d (x ∷ xs) = Lent d x.call × OneBuffer (left_by d x.call x.told) xs

-- on 00: the payload p in the buffer that held d at first
unfoldable pub KeptOn : List ℕ → List ℕ → Called → Told → Type 0
KeptOn d p (enter s e) t = Unit {0}
KeptOn d p (send s b) t = Unit {0}
KeptOn d p (receive s l) t = t.0.number ≡ 0x00 → t.1 ≡ holding p d
KeptOn d p (leave s) t = Unit {0}

-- "then on 00 its first min(P, N) bytes are the payload and the others are untouched"
unfoldable pub Kept : Order → Standing → List ℕ → List Deed → Type 0
Kept o w d [] = Unit {0}
Kept o w d (x ∷ xs) = KeptOn d (moved o w x.call).payload x.call x.told × Kept o (moved o w x.call) d xs

-- an entry, and its own accepted calls
pub record Follows (t : List Deed) : Type 0 where
  pub seat : ℕ
  pub order : Order
  pub counter : ℕ  -- of its first frame
  pub rest : List Deed
  -- "Accepted, it answers 01 at any place in line."
  pub is : t ≡ record { call = enter seat order; told = (number 0x01, []) } ∷ rest
  pub fit : Fit order
  pub counts : within 1 7 counter ≡ true
  pub goes : Goes order (opened counter) rest
  -- "a reply budget of 1 to 65,535": it takes no more replies than that
  pub within_budget : reply_count rest ≤ order.budget
  pub sums : Sums order (opened counter) rest
  pub kept : (d : List ℕ) → OneBuffer d rest → Kept order (opened counter) d rest

-- the transfers that enter in a sequence of calls at the record d, each with its own accepted calls and what was told of them
abbrev pub entries_of : Desk → List Called → List (List Deed)
entries_of d ks = transfers (keep (λ x. is_answered x.told) (trace desk_stand d ks))

-- from every record that calls made, and so for every counter
abbrev pub EachFollows : Type 0
EachFollows = (d : Desk) → Good d → (ks : List Called) → Each Follows (entries_of d ks)
