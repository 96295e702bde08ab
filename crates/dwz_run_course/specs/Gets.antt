-- What is got of the files of a run.
use Rattle.std.specs.Prelude.{ℕ, ◌+◌, ◌^◌, ◌<◌, All, Bool, ◌||◌, nat_lt, List, [], ◌∷◌, length, Option, Some}
use Rattle.std.specs.Prelude.{is_some, option_map, option_and_then, if◌then◌else◌}
use Rattle.dwz_outside.specs.Store.{Store, got}
use Rattle.dwz_words.specs.declared.options.Options.{Options}

-- the content is longer than this, or is together with those before it, which have so many bytes, longer than all may be
abbrev pub is_longer_than : (longest before : ℕ) → List ℕ → Bool
is_longer_than longest before content = nat_lt longest (length content) || nat_lt (2 ^ 29) (before + length content)

-- The contents of these names, in order, up to and with the first that is too long: for that the first is longer than the one number, and one
-- behind it than the other, or it is too long together with those before it. None where one of them isn't held. So many bytes were got before.
abbrev pub gets_by : (longest behind : ℕ) → Store → ℕ → List (List ℕ) → Option (List (List ℕ))
gets_by longest behind store before [] = Some []
gets_by longest behind store before (name ∷ names) =
    option_and_then (λ content.
    if is_longer_than longest before content
    then Some (content ∷ [])
    else option_map (λ rest. content ∷ rest) (gets_by behind behind store (before + length content) names))
    (got store name)

-- ---- of a run

-- the content is longer than a file may be, or is together with those before it, which have so many bytes
abbrev pub content_is_too_long : ℕ → List ℕ → Bool
content_is_too_long before content = is_longer_than (2 ^ 28) before content

-- The contents of these names, in order, up to and with the first that is too long. None where one of them isn't held. So many bytes
-- were got before.
abbrev pub gets : Store → ℕ → List (List ℕ) → Option (List (List ℕ))
gets store before names = gets_by (2 ^ 28) (2 ^ 28) store before names

-- How long a file behind the first may be by itself for the gets to go on: with `--batch` one that is longer than a file may be is refused
-- by itself, and so as long as all together may be.
abbrev pub longest_behind : Options → ℕ
longest_behind o = if is_some o.batch then 2 ^ 29 else 2 ^ 28

-- each content is one of bytes
abbrev pub AreOfBytes : List (List ℕ) → Type 0
AreOfBytes contents = All (λ content. All (λ byte. byte < 2 ^ 8) content) contents
