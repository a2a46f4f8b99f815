-- What the copy in memory shows.
use Rattle.std.proofs.Common.{◌≡◌, ℕ, ◌<◌, List, length, Some, slice_get, get_or, refl, ◌∙◌, ap, subst, arith}
use Rattle.std.proofs.lemmas.Option.{slice_get_read}
use Rattle.file_device.specs.FileCalls.{disk_of}
use Rattle.file_device.specs.FileCallLaws.{good}
use Rattle.file_device.specs.declared.file_call.FileCall.{FileCall}

pub as_many : (calls : List FileCall) (shown : List (List ℕ)) → shown ≡ (disk_of calls).view → length shown ≡ length (disk_of calls).base
as_many calls shown is = ap length is ∙ (good calls).size

pub read_of : (calls : List FileCall) (shown : List (List ℕ)) (n : ℕ) (x : List ℕ) → shown ≡ (disk_of calls).view → n < length (disk_of calls).base → x ≡ get_or shown n x → slice_get (disk_of calls).view n ≡ Some x
read_of calls shown n x kept lt is =
    subst (λ (v : List (List ℕ)). slice_get v n ≡ Some x) kept (slice_get_read shown (length shown) n x refl (omega (arith, as_many calls shown kept)) is)
