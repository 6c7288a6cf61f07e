-- The paths of a description, one after another.
use Rattle.std.proofs.Common.{◌≡◌, ℕ, Bool, true, false, not, ◌==◌, ◌||◌, List, [], ◌∷◌, length, take, drop, map, Ok, Err, String, string_bytes, Global, refl, ap, arith}
use Rattle.std.specs.Prelude.{bytes_eq}
use Rattle.std.specs.List.{list_any}
use Rattle.std.proofs.lemmas.Bool.Decides.{nat_tests}
use Rattle.rz_events.specs.Volume.{Volume, nodes_of}
use Rattle.rz_store_file.specs.declared.fault.StoreFault.{StoreFault}
use Rattle.rz_store_file.specs.declared.fault.StoreFault.TheVariants as fault
use Rattle.rz_store_file.specs.Described.{has_path, Read, ◌>>=◌, refused_if, new_paths, checked, Description}

-- a path is among these texts
pub has_path_map : (path : List ℕ) (paths : List (String Global)) → has_path path (map string_bytes paths) ≡ list_any (λ p. bytes_eq (string_bytes p) path) paths
has_path_map path [] = refl
has_path_map path (p ∷ paths) = ap (λ b. bytes_eq (string_bytes p) path || b) (has_path_map path paths)

-- what is to be tested of these paths, of which so many were
abbrev pub rest_of : List (String Global) → ℕ → Read (Unit {0})
rest_of paths i = new_paths i (map string_bytes (take i paths)) (map string_bytes (drop i paths))

-- there are as many paths as nodes
refused_ok : (b : Bool) (why : StoreFault) (u : Unit {0}) → refused_if b why ≡ Ok u → b ≡ false
refused_ok true why u e = absurd cc
refused_ok false why u e = refl

bound : {A B : Type 0} (r : Read A) (f : A → Read B) (y : B) → (r >>= f) ≡ Ok y → (x : A) × (r ≡ Ok x)
bound (Ok x) f y e = (x, refl)
bound (Err why) f y e = absurd cc

not_false : (b : Bool) → not b ≡ false → b ≡ true
not_false true e = refl
not_false false e = absurd cc

tested : (m n : ℕ) → (m == n) ≡ true → m ≡ n
tested m n e = grind (arith, nat_tests)

pub as_many : (v : Volume) (disks : List (List ℕ)) (journal : List ℕ) (s : Description) → checked v disks journal ≡ Ok s → length disks ≡ length (nodes_of v.clusters)
unfolding checked
as_many v disks journal s e =
    let count = bound (refused_if (not (length disks == length (nodes_of v.clusters))) (fault.WrongCount (length disks) (length (nodes_of v.clusters)))) _ s e in
    tested (length disks) (length (nodes_of v.clusters)) (not_false _ (refused_ok _ _ count.0 count.1))
