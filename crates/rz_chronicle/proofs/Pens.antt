-- Which pens are left while the words of a book are made.
use Rattle.std.proofs.Common.{◌≡◌, ◌≢◌, ℕ, ◌+◌, ◌<◌, ◌≤◌, nat_eq, List, [], ◌∷◌, ◌++◌, length, set, slice_index_or, true, sym, refl, ap, ap₂, ◌∙◌, subst, inl, inr, arith}
use Rattle.std.specs.List.{IsDistinct}
use Rattle.std.proofs.lemmas.List.{get_or-set_other, get_or_push}
use Rattle.std.proofs.Math.ListN.{get_or-append}
use Rattle.logbook.specs.Pages.{Book, Named, Nib}
use Rattle.rz_chronicle.specs.Rules.{named}
use Rattle.logbook.specs.declared.tokens.Pen.{Pen}
use Rattle.rz_chronicle.specs.Keys.{key_at, rows}
use Rattle.rz_chronicle.specs.Dealing.{IsPenFor, AreFresh}
use Rattle.rz_chronicle.proofs.Adding.{below_or}
use Rattle.rz_chronicle.proofs.Apart.{keys-apart}

-- the pens of the places from i on
abbrev pub Remain : Book → List ℕ → ℕ → List Pen → Type 0
Remain b sids i ps = (place : ℕ) (d : Pen) → i ≤ place → place < 338 → key_at sids place < rows → IsPenFor b (key_at sids place) (slice_index_or ps (key_at sids place) d)

pub remain-first : (b : Book) (sids : List ℕ) (ps : List Pen) → length ps ≡ rows → AreFresh b ps → Remain b sids 0 ps
remain-first b sids ps long fresh place d low high in_row = fresh (key_at sids place) d (subst (λ (n : ℕ). key_at sids place < n) (sym long) in_row)

pub remain-next : (b : Book) (sids : List ℕ) (i : ℕ) (ps : List Pen) (p : Pen) → IsDistinct nat_eq sids → i < 338 → Remain b sids i ps → Remain b sids (i + 1) (set ps (key_at sids i) p)
remain-next b sids i ps p distinct few remain place d low high in_row =
    let apart : key_at sids place ≢ key_at sids i = keys-apart sids place i distinct high few (λ e. absurd (omega (arith, low, e))) in
    subst (IsPenFor b (key_at sids place)) (sym (get_or-set_other ps (key_at sids i) (key_at sids place) p d apart)) (remain place d (omega (arith, low)) high in_row)

pub fresh-more : (b : Book) (ps : List Pen) (p : Pen) → IsPenFor b (length ps) p → AreFresh b ps → AreFresh b (ps ++ p ∷ [])
fresh-more b ps p is are k d lt =
    elim (below_or k (length ps) (omega (arith, Rattle.std.proofs.Common.length-append ps (p ∷ [])))) [
      | inl low ↦ subst (IsPenFor b k) (sym (get_or-append ps (p ∷ []) d k low)) (are k d low)
      | inr here ↦ subst (λ (j : ℕ). IsPenFor b j (slice_index_or (ps ++ p ∷ []) k d)) here (subst (IsPenFor b (length ps)) (sym (get_or_push ps p d k here)) is)
    ]

-- the word that a fresh pen makes
pub pen-named : (b : Book) (k : ℕ) (p : Pen) (w : Named) → w ≡ record { tracked = true; key = p.nib.key; book = p.book } → IsPenFor b k p → w ≡ named b k
pen-named b k p w is fresh = is ∙ ap₂ (λ (j : ℕ) (c : Book). named c j) (ap (λ (n : Nib). n.key) fresh.1) fresh.0
