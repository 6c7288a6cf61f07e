-- What contracts see of a link that loses what a list says.
use Rattle.std.specs.Prelude.{ℕ, ◌==◌, ◌-◌, ◌+◌, ◌^◌, List, min, if◌then◌else◌}
use Rattle.rz_link.specs.declared.Sent.{Sent}
use Rattle.rz_link.specs.declared.Sent.TheVariants.{Through, RequestLost, ReplyLost}
use Rattle.rz_link.specs.Listed.{listed}

-- the list of the lost sends, how many sends were made, and how many of them were lost
pub record Journey : Type 0 where
  pub entries : List (ℕ × Sent)
  pub made : ℕ
  pub lost : ℕ

-- how the next send fares; past the numbers of a u64 it goes through
abbrev pub fares : Journey → Sent
fares j = if j.made == 2 ^ 64 - 1 then Through else listed j.entries j.made

-- one more where a message was lost
abbrev pub counted : Sent → ℕ → ℕ
counted Through lost = lost
counted RequestLost lost = lost + 1
counted ReplyLost lost = lost + 1

-- after the next send
abbrev pub after_send : Journey → Journey
after_send j = record {
  entries = j.entries;
  made = min (j.made + 1) (2 ^ 64 - 1);
  lost = counted (fares j) j.lost;
}
