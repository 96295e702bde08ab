-- The first fault of a list, item by item.
use Rattle.std.proofs.Common.{◌≡◌, ℕ, ◌+◌, ◌<◌, ◌≤◌, List, [], length, take, drop, get_or, Option, Some, None, Bool, true, false, refl, sym, ap, ◌∙◌}
use Rattle.std.specs.Prelude.{is_some}
use Rattle.std.proofs.lemmas.List.{drop_all, drop_more, take_more}
use Rattle.dwz_model.specs.declared.fault.Fault.{Fault}
use Rattle.dwz_model.specs.declared.fault.Reason.TheVariants.{SectionTable}
use Rattle.dwz_def_reading.specs.declared.elf.Section.{Section}
use Rattle.dwz_def_reading.specs.ElfFaults.{file_fault}
use Rattle.dwz_def_reading.specs.ElfReading.{first_in, header_fault, is_wrong}
use Rattle.dwz_def_reading.specs.FirstOf.{◌or◌}

opened : {X : Type 0} (fault_of : List X → X → Option Fault) (xs : List X) (i : ℕ) (d : X) → i < length xs
    → first_in fault_of (take i xs) (drop i xs) ≡ (fault_of (take i xs) (get_or xs i d) or first_in fault_of (take (i + 1) xs) (drop (i + 1) xs))
unfolding first_in
opened fault_of xs i d less = rw (drop_more xs i d less, take_more xs i d less) refl

pub none_here : {X : Type 0} (fault_of : List X → X → Option Fault) (xs : List X) (i : ℕ) (d : X) (all : Option Fault) → i < length xs → fault_of (take i xs) (get_or xs i d) ≡ None
    → first_in fault_of (take i xs) (drop i xs) ≡ all → first_in fault_of (take (i + 1) xs) (drop (i + 1) xs) ≡ all
none_here fault_of xs i d all less none so_far =
    let step = opened fault_of xs i d less in
    (rw none at (sym step)) ∙ so_far

pub some_here : {X : Type 0} (fault_of : List X → X → Option Fault) (xs : List X) (i : ℕ) (d : X) (f : Fault) (all : Option Fault) → i < length xs → fault_of (take i xs) (get_or xs i d) ≡ Some f
    → first_in fault_of (take i xs) (drop i xs) ≡ all → Some f ≡ all
some_here fault_of xs i d f all less some so_far =
    let step = opened fault_of xs i d less in
    (rw some at (sym step)) ∙ so_far

pub none_left : {X : Type 0} (fault_of : List X → X → Option Fault) (xs : List X) (i : ℕ) (all : Option Fault) → length xs ≤ i → first_in fault_of (take i xs) (drop i xs) ≡ all → None ≡ all
unfolding first_in
none_left fault_of xs i all done so_far = let none : drop i xs ≡ [] = drop_all i xs done in (rw none at so_far)

pub wrong_fault : (len names : ℕ) (before : List Section) (s : Section) (wrong : Bool) (f : Fault) → wrong ≡ is_wrong len names before s → wrong ≡ true → f ≡ file_fault SectionTable s.header.at
    → header_fault len names before s ≡ Some f
unfolding header_fault
wrong_fault len names before s wrong f is holds fault = let test : is_wrong len names before s ≡ true = sym is ∙ holds in rw test (ap Some (sym fault))

pub right_none : (len names : ℕ) (before : List Section) (s : Section) (wrong : Bool) → wrong ≡ is_wrong len names before s → wrong ≡ false → header_fault len names before s ≡ None
unfolding header_fault
right_none len names before s wrong is holds = let test : is_wrong len names before s ≡ false = sym is ∙ holds in rw test refl

-- an answer that there is a fault, or none
pub there_is : (fault : Option Fault) (test : Bool) → test ≡ is_some fault → test ≡ true → (f : Fault) × (fault ≡ Some f)
there_is (Some f) test is holds = (f, refl)
there_is None test is holds = absurd (cc)

pub there_is_none : (fault : Option Fault) (test : Bool) → test ≡ is_some fault → test ≡ false → fault ≡ None
there_is_none (Some f) test is holds = absurd (cc)
there_is_none None test is holds = refl
