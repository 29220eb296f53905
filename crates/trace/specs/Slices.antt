-- A slice parameter whole, at a call's entry and at its exit, so that a contract names it once. Assumes nothing.
use Rattle.std.specs.Prelude.{List}
use denote.Triple.Both.{Both}
use Rattle.std.specs.Borrow.{Bor, MutBor}

-- a slice as the name of a parameter has it in an `ensures`
abbrev pub Slice : Type 0 → Type 0
Slice A = Both (Bor (List A)) (Bor (List A))

-- the same of a slice that a call may write
abbrev pub MutSlice : Type 0 → Type 0
MutSlice A = Both (MutBor (List A)) (MutBor (List A))

-- what it holds when the call begins
abbrev pub entering : {A : Type 0} → Slice A → List A
entering l = l.entry.now

abbrev pub entering_mut : {A : Type 0} → MutSlice A → List A
entering_mut l = l.entry.now

-- what it holds when the call ends
abbrev pub leaving : {A : Type 0} → MutSlice A → List A
leaving l = l.exit.now
