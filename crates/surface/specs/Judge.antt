-- The reply judge as a host calls it, without desk and budget: 15, 16, 16, and else document 01's rules (promises/specs/Rules); the chunk in
-- the data buffer, behind the earlier ones; and what it tells besides. Assumes nothing.
use Rattle.std.specs.Prelude.{◌≡◌, true, false, not, List, [], ◌∷◌, ℕ, eqb, ltb, length}
use Rattle.std.proofs.Math.Option.{some}
use Rattle.wire.specs.Words.{pick, either, first_of}
use Rattle.wire.specs.Store.{laid}
use Rattle.mailbox.specs.Fields.{the, operation}
use Rattle.judge.specs.Answers.{one_of}
use Rattle.judge.specs.declared.Answer.{Answer}
use Rattle.transfer.specs.declared.due.Reply.{Reply}
use Rattle.transfer.specs.declared.due.Reply.TheVariants as reply
use Rattle.promises.specs.Finding.{Finding, refuse}
use Rattle.promises.specs.Rules.{Rule, rules}

-- 1 upload, 3 download, 4 object list or quantities not begun, 7 segment, 8 list begun
abbrev pub kinds : List ℕ
kinds = 1 ∷ 3 ∷ 4 ∷ 7 ∷ 8 ∷ []

-- what the reply answers, by the kind's number; the last line is also for kinds that are refused
abbrev pub answers : ℕ → ℕ → ℕ → Reply
answers kind i b =
    pick (eqb kind 1) (reply.Upload i b)
    (pick (eqb kind 3) (reply.Download i b)
    (pick (eqb kind 7) reply.Segment
    (pick (eqb kind 4) (reply.Fragment false)
    (reply.Fragment true))))

-- of a reply s and a data buffer d
unfoldable pub judge_rules : ℕ → ℕ → ℕ → ℕ → List ℕ → List ℕ → List Rule
judge_rules kind i b earlier s d =
    -- "an unknown kind", and "15 .. stands before 16"
    (not (one_of kinds kind), refuse 0x15)
    -- 16: "reply above 1,486, N above 131,070"
    ∷ (ltb 1486 (length s), refuse 0x16)
    ∷ (ltb 131070 (length d), refuse 0x16)
    ∷ rules (answers kind i b) earlier (length d) s

-- on 01 and 02 the length of this reply's chunk is told, and on 02 whether the list has begun: by kind 8, or by this reply's operation 2
unfoldable pub besides : ℕ → List ℕ → Finding → Answer
besides kind s f =
    pick (eqb f.0.number 0x01) (record { number = 0x01; sub = 0; index = 0; code = 0; length = length f.1; «data» = 0 })
    (pick (eqb f.0.number 0x02)
    (record { number = 0x02; sub = pick (either (eqb kind 8) (eqb (the operation s) 2)) 1 0; index = 0; code = 0; length = length f.1; «data» = 0 })
    f.0)

-- "Each call writes only its own chunk, at the sum of the earlier ones." An upload's data and a download's have none before them.
unfoldable pub place_at : ℕ → ℕ → ℕ
place_at kind earlier = pick (either (eqb kind 1) (eqb kind 3)) 0 earlier

pub record JudgesReply (kind i b earlier : ℕ) (s d : List ℕ) (answer : Answer) (after : List ℕ) : Type 0 where
  pub found : Finding
  pub first : first_of (judge_rules kind i b earlier s d) ≡ some found
  pub told : answer ≡ besides kind s found
  pub stored : after ≡ laid d (place_at kind earlier) found.1
