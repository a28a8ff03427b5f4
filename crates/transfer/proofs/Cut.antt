-- A download's data are the first `len` bytes of its value: what the value has behind them reaches no frame. Assumes nothing.
use mathlib.Core.Path.{◌≡◌}
use Prim.Native.Nat.{ℕ, ◌^◌}
use native.Mathlib.Nat.{mod-mod}
use Rattle.mailbox.specs.declared.sub_index.SubIndex.{SubIndex}
use Rattle.services.specs.Requests.{cut_to, packed_of}
use Rattle.services.specs.declared.Request.TheVariants.{Download}

pub data_cut : (counter index : ℕ) (access : SubIndex) (value len : ℕ)
    → packed_of counter (Download index access value len) ≡ packed_of counter (Download index access (cut_to len value) len)
unfolding packed_of cut_to
data_cut counter index access value len = rw (mod-mod value (256 ^ len))
