-- What contracts see of a source and of a sink in memory.
use Rattle.std.specs.Prelude.{ℕ, Bool, ◌++◌, ◌&&◌, ◌==◌, List, Contains, length, take, nat_lt, if◌then◌else◌}
use Rattle.rz_ports.specs.Counts.{one_more}

-- calls that are numbered from 0: how many were made, the numbers of those that are to fail, and how many failed
pub record Calls : Type 0 where
  pub made : ℕ
  pub fails : List ℕ
  pub failed : ℕ

-- the next call is to fail
abbrev pub FailsNext : Calls → Type 0
FailsNext calls = Contains calls.fails calls.made

-- after one more call, which failed or did not
abbrev pub after_call : Bool → Calls → Calls
after_call fails calls = record {
  made = one_more calls.made;
  fails = calls.fails;
  failed = if fails then one_more calls.failed else calls.failed;
}

-- a source: the bytes that are left to be read, and the calls
pub record Feed : Type 0 where
  pub left : List ℕ
  pub calls : Calls

-- what a sink holds: the bytes that were taken, the room for bytes in all, and how many pieces were refused for want of room
pub record Store : Type 0 where
  pub taken : List ℕ
  pub room : ℕ
  pub refusals : ℕ

-- no byte was taken of a piece that is not empty
abbrev pub took_none : ℕ → List ℕ → Bool
took_none n piece = n == 0 && nat_lt 0 (length piece)

-- after a write that took n bytes of a piece
abbrev pub after_write : ℕ → List ℕ → Store → Store
after_write n piece store = record {
  taken = store.taken ++ take n piece;
  room = store.room;
  refusals = if took_none n piece then one_more store.refusals else store.refusals;
}

-- a sink: what it holds, and the calls
pub record Deposit : Type 0 where
  pub store : Store
  pub calls : Calls
