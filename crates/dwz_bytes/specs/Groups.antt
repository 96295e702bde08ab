-- Inner: what the code gathers of a LEB128 number.
use Rattle.std.specs.Prelude.{◌≡◌, ℕ, ◌^◌, ◌<◌, ◌≤◌, List, length, take, Result, Ok, Err}
use Rattle.dwz_bytes.specs.declared.error.ByteErr.{ByteErr}
use Rattle.dwz_bytes.specs.declared.groups.Groups.{Groups}
use Rattle.dwz_bytes.specs.Input.{Input, past}
use Rattle.dwz_bytes.specs.Spelling.{groups_value, last_of}

-- the groups are the first bytes, up to one below 128
pub record AreFirst (bytes : List ℕ) (g : Groups) (found : Result (List ℕ) ByteErr) : Type 0 where
  pub read : found ≡ Ok (take g.len bytes)
  pub within : g.len ≤ length bytes
  pub few : g.len ≤ 10
  pub value : g.value ≡ groups_value (take g.len bytes)
  pub scale : g.scale ≡ 128 ^ g.len
  pub small : g.value < g.scale
  pub last : g.last ≡ last_of (take g.len bytes)

abbrev pub FindsGroups : List ℕ → Result Groups ByteErr → Result (List ℕ) ByteErr → Type 0
FindsGroups bytes (Ok g) read = AreFirst bytes g read
FindsGroups bytes (Err e) read = read ≡ Err e

-- What a call on the bytes of an input found is what reading gives: a value, and how many bytes it takes.
abbrev pub Finds : {X : Type 0} → Input → Result (X × ℕ) ByteErr → Result (X × Input) ByteErr → Type 0
Finds i (Ok x) read = (read ≡ Ok (x.0, past x.1 i)) × (x.1 ≤ length i.rest)
Finds i (Err e) read = read ≡ Err e
