-- Keys that are the same, and the stamps of what is held of a key.
use Rattle.std.proofs.Common.{ℕ, Bool, true, false, ◌≡◌, ◌==◌, ◌&&◌, ◌||◌, nat_lt, List, [], ◌∷◌, map, cond, refl, sym, ap, ◌∙◌, eq-eqb}
use Rattle.std.proofs.lemmas.Bool.{and_parts, eqb-true}
use Rattle.rz_events.specs.Events.{same_key}
use Rattle.rz_events.specs.declared.keys.Key.{Key}
use Rattle.rz_events.specs.declared.records.Held.{Held}
use Rattle.rz_node_model.specs.Records.{stamp_of}
use Rattle.rz_node_model.specs.Versions.{kept, refilled, without, has_stamp, greater_goes}
use Rattle.rz_core.specs.NodeWord.{itself}

-- ---- keys

key_ext : (a b : Key) → a.fid ≡ b.fid → a.block ≡ b.block → a ≡ b
key_ext a b p q = λ i. record { fid = p i; block = q i }

pub key-same : (a b : Key) → same_key a b ≡ true → a ≡ b
key-same a b h = let p = and_parts (a.fid == b.fid) (a.block == b.block) h in key_ext a b (eqb-true a.fid b.fid p.0) (eqb-true a.block b.block p.1)

pub same-key : (a : Key) → same_key a a ≡ true
same-key a = λ i. eq-eqb a.fid a.fid refl i && eq-eqb a.block a.block refl i

-- ---- stamps alone

pub has-stamp : (s : ℕ) (rs : List Held) → has_stamp itself s (map stamp_of rs) ≡ has_stamp stamp_of s rs
has-stamp s [] = refl
has-stamp s (r ∷ rs) = ap (λ b. (r.stamp == s) || b) (has-stamp s rs)

chosen : (t : Bool) (xs ys : List Held) → cond t (map stamp_of xs) (map stamp_of ys) ≡ map stamp_of (cond t xs ys)
chosen true xs ys = refl
chosen false xs ys = refl

pub kept-stamps : (base : ℕ) (new : Held) (rs : List Held) → map stamp_of (kept stamp_of base new rs) ≡ kept itself base new.stamp (map stamp_of rs)
kept-stamps base new [] = refl
kept-stamps base new (a ∷ []) = refl
kept-stamps base new (greater ∷ lesser ∷ more) = sym (chosen (greater_goes base greater.stamp lesser.stamp) (new ∷ lesser ∷ []) (new ∷ greater ∷ []))

pub refilled-stamps : (new : Held) (rs : List Held) → map stamp_of (refilled stamp_of new rs) ≡ refilled itself new.stamp (map stamp_of rs)
refilled-stamps new [] = refl
refilled-stamps new (greater ∷ more) = sym (chosen (nat_lt greater.stamp new.stamp) (new ∷ greater ∷ []) (greater ∷ new ∷ []))

pub without-stamps : (s : ℕ) (rs : List Held) → map stamp_of (without stamp_of s rs) ≡ without itself s (map stamp_of rs)
without-stamps s [] = refl
without-stamps s (a ∷ more) = sym (ap (λ rest. cond (a.stamp == s) (map stamp_of more) (a.stamp ∷ rest)) (sym (without-stamps s more)) ∙ chosen (a.stamp == s) more (a ∷ without stamp_of s more))
