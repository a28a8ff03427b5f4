-- The reply to a download. Assumes nothing.
use Rattle.std.specs.Prelude.{List, ℕ, ltb, length}
use Rattle.wire.specs.Words.{pick}
use Rattle.wire.specs.Refusal.{number_of}
use Rattle.wire.specs.declared.refusal.Refusal.TheVariants.{Undecodable}
use Rattle.judge.specs.Places.{download_least}
use Rattle.judge.specs.Reply.{reply_to}
use Rattle.judge.specs.declared.Verdict.{Verdict}
use Rattle.judge.specs.declared.Verdict.TheVariants.{Refused, Done}

-- "Download: under 16 bytes is 20; else done, P = 0."
unfoldable pub download_of : ℕ → Verdict
download_of size = pick (ltb size download_least) (Refused (number_of Undecodable)) (Done 0 0)

unfoldable pub judge_download : ℕ → ℕ → List ℕ → Verdict
judge_download index sub s = reply_to index sub s λ h. download_of (length s)
