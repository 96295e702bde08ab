-- Inner: what is made before the first put.
use Rattle.std.specs.Prelude.{◌≡◌, ℕ, ◌≤◌, List, ◌∷◌, ◌++◌, map}
use Rattle.dwz_outside.specs.Told.{FailedWrite, FilesSeen, StoredWith}
use Rattle.dwz_outside.specs.declared.puts.Put.{Put}
use Rattle.dwz_report.specs.Texts.{write_text}
use Rattle.dwz_run_course.specs.Puts.{HeldWith}
use Rattle.dwz_run_course.specs.declared.putting.Ready.{Ready}

-- a put, and what is said where it fails
abbrev pub ready_of : Put → Ready
ready_of p = record { put = p; text = write_text p.name }

-- the puts of these
abbrev pub puts_of : List Ready → List Put
puts_of all = map (λ r. r.put) all

-- the puts before one are done, that one failed, and this is said of it
pub record PutsStoppedFor (old new : FilesSeen) (all : List Ready) (text : List ℕ) : Type 0 where
  pub before : List Ready
  pub failed : Ready
  pub after : List Ready
  pub all_are : all ≡ before ++ failed ∷ after
  pub held : HeldWith old new (puts_of before)
  pub stored : StoredWith old new (puts_of before)
  pub text_is : text ≡ failed.text
  pub fault : FailedWrite old new failed.put.name

-- the first of the puts are done, and these are left
pub record PutsSoFar (old new : FilesSeen) (all rest : List Ready) : Type 0 where
  pub before : List Ready
  pub all_are : all ≡ before ++ rest
  pub held : HeldWith old new (puts_of before)
  pub stored : StoredWith old new (puts_of before)
  pub last : new.last_write ≡ old.last_write
  pub rises : old.write_faults ≤ new.write_faults
