-- Every judgement's number is one that document 01 gives to its kind. Assumes nothing.
use mathlib.Core.Path.{◌≡◌, refl}
use mathlib.Core.Bool.{Bool, true, false}
use mathlib.Core.List.{List}
use Prim.Native.Nat.{ℕ}
use Rattle.judge.specs.Answers.{done_or, answer_of, one_of, upload_numbers, download_numbers, segment_numbers, list_numbers}
use Rattle.judge.specs.Download.{judge_download}
use Rattle.judge.specs.Upload.{judge_upload}
use Rattle.judge.specs.Segment.{judge_segment}
use Rattle.judge.specs.Information.{judge_list}
use Rattle.judge.specs.declared.Verdict.{Verdict}
use Rattle.judge.proofs.Cases.{upload_cases, download_cases, segment_cases, list_cases}

abbrev Among : List ℕ → Verdict → Type 0
Among l v = one_of l (answer_of v).number ≡ true

pub upload_number : (index sub n : ℕ) (s : List ℕ) → Among upload_numbers (judge_upload index sub n s)
unfolding answer_of
upload_number index sub n s =
    upload_cases (Among upload_numbers) s refl (λ from p h. refl) index sub n
    (record { refused = refl; emergency = λ m. refl; aborted = λ b i c. refl; other = refl }) refl refl

pub download_number : (index sub : ℕ) (s : List ℕ) → Among download_numbers (judge_download index sub s)
unfolding answer_of
download_number index sub s =
    download_cases (Among download_numbers) index sub s
    (record { refused = refl; emergency = λ m. refl; aborted = λ b i c. refl; other = refl }) refl

done_or_on : (l : List ℕ) (last : Bool) (sum number : ℕ) → one_of l 0x00 ≡ true → one_of l number ≡ true → one_of l (done_or last sum number).number ≡ true
done_or_on l true sum number d o = d
done_or_on l false sum number d o = o

pub segment_number : (earlier n : ℕ) (s : List ℕ) → Among segment_numbers (judge_segment earlier n s)
unfolding answer_of
segment_number earlier n s =
    segment_cases (Among segment_numbers) s earlier n refl refl
    (record { refused = refl; emergency = λ m. refl; aborted = λ b i c. refl; other = refl })
    (λ from len last h k. done_or_on segment_numbers last _ 0x01 refl refl)

pub list_number : (begun : Bool) (earlier n : ℕ) (s : List ℕ) → Among list_numbers (judge_list begun earlier n s)
unfolding answer_of
list_number begun earlier n s =
    list_cases (Among list_numbers) s earlier n refl refl begun refl refl
    (λ from len last h k. done_or_on list_numbers last _ 0x02 refl refl)
