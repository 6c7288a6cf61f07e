-- Words that say no actor, no node and no datum.
use Rattle.std.proofs.Common.{◌≡◌, ℕ, ◌<◌, ◌==◌, false, List, [], ◌∷◌, length, Err, refl, ap, arith, ne_eqb}
use Rattle.std.specs.List.{slice_split}
use Rattle.std.proofs.lemmas.List.Splits.{length-slice_split}
use Rattle.rz_events.specs.Volume.{Volume}
use Rattle.rz_script_words.specs.declared.fault.ScriptCause.TheVariants.{BadActor, BadNode, BadDatum}
use Rattle.rz_script_words.specs.Grammar.{actor, node, made}

pub neither : (w : List ℕ) → ((rest : List ℕ) → w ≡ 99 ∷ rest → ⊥) → ((rest : List ℕ) → w ≡ 114 ∷ rest → ⊥) → actor w ≡ Err BadActor
unfolding actor
neither [] p q = refl
neither (b ∷ ds) p q =
    let not_c : (b == 99) ≡ false = ne_eqb _ _ (λ e. p ds (ap (λ (x : ℕ). x ∷ ds) e)) in
    let not_r : (b == 114) ≡ false = ne_eqb _ _ (λ e. q ds (ap (λ (x : ℕ). x ∷ ds) e)) in
    rw (not_c, not_r) refl

pub no_node : (v : Volume) (w : List ℕ) → ((rest : List ℕ) → w ≡ 110 ∷ rest → ⊥) → node v w ≡ Err BadNode
unfolding node
no_node v [] p = refl
no_node v (b ∷ ds) p =
    let not_n : (b == 110) ≡ false = ne_eqb _ _ (λ e. p ds (ap (λ (x : ℕ). x ∷ ds) e)) in
    rw not_n refl

many_parts : (limit : ℕ) (len seed : List ℕ) (more : List (List ℕ)) → 0 < length more → made limit (len ∷ seed ∷ more) ≡ Err BadDatum
many_parts limit len seed [] h = absurd (omega arith)
many_parts limit len seed (x ∷ more) h = refl

-- more than one colon
pub two_colons : (limit : ℕ) (parts len seed x after : List ℕ) → slice_split (λ b. b == 58) parts ≡ len ∷ slice_split (λ b. b == 58) seed → slice_split (λ b. b == 58) seed ≡ x ∷ slice_split (λ b. b == 58) after
    → made limit (slice_split (λ b. b == 58) parts) ≡ Err BadDatum
two_colons limit parts len seed x after one two =
    rw (one, two) (many_parts limit len x (slice_split (λ b. b == 58) after) (omega (arith, length-slice_split (λ b. b == 58) after)))
