-- What a log of the workload comes to.
use Rattle.std.specs.Prelude.{ℕ, ◌+◌, ◌<◌, Bool, true, false, not, ◌&&◌, List, ◌++◌, codes, count_by}
use Rattle.std.specs.Fmt.{decimal}
use Rattle.hex.specs.Hex.{encode_lower}
use Rattle.sha2.specs.Sha256.{sha256}
use Rattle.rz_events.specs.declared.ends.WriteEnd.{WriteEnd}
use Rattle.rz_events.specs.declared.ends.WriteEnd.TheVariants as write
use Rattle.rz_events.specs.declared.ends.ReadEnd.{ReadEnd}
use Rattle.rz_events.specs.declared.ends.ReadEnd.TheVariants as read
use Rattle.rz_events.specs.declared.ends.RebuildEnd.{RebuildEnd}
use Rattle.rz_events.specs.declared.ends.RebuildEnd.TheVariants as rebuild
use Rattle.rz_events.specs.declared.events.Answer.{Answer}
use Rattle.rz_events.specs.declared.events.Answer.TheVariants as answer
use Rattle.rz_events.specs.declared.events.Event.{Event}
use Rattle.rz_events.specs.declared.events.Event.TheVariants as e
use Rattle.rz_show.specs.Text.{text_of}
use Rattle.rz_report.specs.declared.counts.Counts.{Counts}

-- ---- ends of puts, of gets and of rebuilds

abbrev pub is_acked_end : WriteEnd → Bool
is_acked_end (write.Acked stamp mask) = true
is_acked_end _ = false

abbrev pub is_too_few_put : WriteEnd → Bool
is_too_few_put (write.TooFew why) = true
is_too_few_put _ = false

abbrev pub is_found_end : ReadEnd → Bool
is_found_end (read.Found stamp text) = true
is_found_end _ = false

abbrev pub is_too_few_get : ReadEnd → Bool
is_too_few_get (read.TooFew seen) = true
is_too_few_get _ = false

abbrev pub is_rebuilt_end : RebuildEnd → Bool
is_rebuilt_end (rebuild.Rebuilt fence refilled) = true
is_rebuilt_end _ = false

abbrev pub is_rebuilt_answer : Answer → Bool
is_rebuilt_answer (answer.Rebuild end) = is_rebuilt_end end
is_rebuilt_answer _ = false

-- ---- the events that are counted

-- the end of a put, which is no part of a longer write
unfoldable pub is_put : Event → Bool
is_put (e.Gave by number key part end) = not part
is_put _ = false

unfoldable pub is_acked : Event → Bool
is_acked (e.Gave by number key part end) = not part && is_acked_end end
is_acked _ = false

-- the end of a get, which is no part of a longer read
unfoldable pub is_get : Event → Bool
is_get (e.Got by number key part end) = not part
is_get _ = false

unfoldable pub is_found : Event → Bool
is_found (e.Got by number key part end) = not part && is_found_end end
is_found _ = false

-- the end of a put or of a get that had too few nodes
unfoldable pub is_too_few : Event → Bool
is_too_few (e.Gave by number key part end) = not part && is_too_few_put end
is_too_few (e.Got by number key part end) = not part && is_too_few_get end
is_too_few _ = false

unfoldable pub is_rebuilt : Event → Bool
is_rebuilt (e.Done by number end) = is_rebuilt_answer end
is_rebuilt _ = false

unfoldable pub is_left : Event → Bool
is_left (e.Left by key why) = true
is_left _ = false

-- how many events of a log there are of each kind
abbrev pub counts_of : List Event → Counts
counts_of log = record {
  puts = count_by is_put log;
  acked = count_by is_acked log;
  gets = count_by is_get log;
  found = count_by is_found log;
  too_few = count_by is_too_few log;
  rebuilt = count_by is_rebuilt log;
  left = count_by is_left log;
}

-- these counts with one event more
abbrev pub one_if : Bool → ℕ
one_if true = 1
one_if false = 0

abbrev pub noted : Counts → Event → Counts
noted c x = record {
  puts = c.puts + one_if (is_put x);
  acked = c.acked + one_if (is_acked x);
  gets = c.gets + one_if (is_get x);
  found = c.found + one_if (is_found x);
  too_few = c.too_few + one_if (is_too_few x);
  rebuilt = c.rebuilt + one_if (is_rebuilt x);
  left = c.left + one_if (is_left x);
}

-- each count is below a number
pub record AreBelow (c : Counts) (n : ℕ) : Type 0 where
  pub puts : c.puts < n
  pub acked : c.acked < n
  pub gets : c.gets < n
  pub found : c.found < n
  pub too_few : c.too_few < n
  pub rebuilt : c.rebuilt < n
  pub left : c.left < n

-- ---- the line

-- a word and its number
unfoldable pub counted : List ℕ → ℕ → List ℕ
counted word n = codes " " ++ (word ++ (codes " " ++ decimal n))

unfoldable pub line : ℕ → Counts → List ℕ → List ℕ
line seed c digest =
    codes "load " ++ decimal seed ++ counted (codes "puts") c.puts ++ counted (codes "acked") c.acked
    ++ counted (codes "gets") c.gets ++ counted (codes "data") c.found ++ counted (codes "toofew") c.too_few
    ++ counted (codes "rebuilt") c.rebuilt ++ counted (codes "left") c.left ++ codes " sha256 " ++ digest ++ codes "\n"

-- the line of a log of the workload of a seed: its counts, and the digest of its text
abbrev pub summary_of : ℕ → List Event → List ℕ
summary_of seed log = line seed (counts_of log) (encode_lower (sha256 (text_of log true)))
