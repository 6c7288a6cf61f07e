-- An exchange on a word of the row keeps the rule, and runs the update whether it is won or not.
use Rattle.std.proofs.Common.{◌≡◌, ◌≢◌, ◌==◌, ℕ, zero, suc, ◌+◌, ◌<◌, ◌≤◌, Bool, true, false, List, [], ◌∷◌, ◌++◌, length, set, sym, refl, ap, ◌∙◌, subst, inl, inr, arith, MatchBool, None, Some}
use Rattle.std.proofs.lemmas.Bool.Decides.{nat_tests}
use Rattle.std.proofs.lemmas.List.{length-set, get_or-set_same, get_or-set_other, append-nil, get_or_push}
use Rattle.std.proofs.Math.ListN.{get_or-append}
use mathlib.Core.List.{IsPrefix}
use prog.Atomic.{either}
use Rattle.logbook.specs.Pages.{Book, Named, Cell, cell, keeps, no_nib, step, Moves, Goes}
use Rattle.rz_events.specs.declared.events.Word.{Word}
use Rattle.rz_events.specs.declared.events.Event.{Event}
use Rattle.rz_events.specs.Events.{word_of}
use Rattle.rz_chronicle.specs.declared.told.Told.{Told}
use Rattle.rz_chronicle.specs.Keys.{count_at, word_key, key_at, rows, IsInRow}
use Rattle.rz_chronicle.specs.Tokens.{mark}
use Rattle.rz_chronicle.specs.Rules.{AreCellsCounted, IsMove, Adds, Looks, AreBookWords, named}
use Rattle.rz_chronicle.proofs.Keys.{count-same, count-other, touches-own, touches-other}

pub eq_or : (i k : ℕ) → mathlib.Core.Logic.◌⊎◌ (i ≡ k) (i ≢ k)
eq_or zero zero = inl refl
eq_or zero (suc k) = inr (λ e. absurd (omega arith))
eq_or (suc i) zero = inr (λ e. absurd (omega arith))
eq_or (suc i) (suc k) = elim (eq_or i k) [ inl e ↦ inl (ap suc e) | inr apart ↦ inr (λ e. apart (omega arith)) ]

pub below_or : (k n : ℕ) → k < n + 1 → mathlib.Core.Logic.◌⊎◌ (k < n) (n ≡ k)
below_or zero zero lt = inr refl
below_or zero (suc n) lt = inl (omega arith)
below_or (suc k) zero lt = absurd (omega arith)
below_or (suc k) (suc n) lt = elim (below_or k n (omega arith)) [ inl l ↦ inl (omega arith) | inr e ↦ inr (ap suc e) ]

-- one more word
pub words_more : (b : Book) (sids : List ℕ) (ws : List Named) (w : Named) → w ≡ named b (key_at sids (length ws)) → AreBookWords b sids ws → AreBookWords b sids (ws ++ w ∷ [])
words_more b sids ws w is are k d lt =
    elim (below_or k (length ws) (omega (arith, Rattle.std.proofs.Common.length-append ws (w ∷ [])))) [
      | inl low ↦ get_or-append ws (w ∷ []) d k low ∙ are k d low
      | inr here ↦ get_or_push ws w d k here ∙ (is ∙ ap (λ (i : ℕ). named b (key_at sids i)) here)
    ]

-- the event is added
kept_more : (cs : List Cell) (log : List Event) (e : Event) (n : ℕ) → IsInRow e → AreCellsCounted cs log → n ≡ count_at (word_key (word_of e)) log + 1
    → AreCellsCounted (set cs (word_key (word_of e)) (n, true)) (log ++ e ∷ [])
kept_more cs log e n low kept is = let k : ℕ = word_key (word_of e) in
    record {
      len = length-set cs k (n, true) ∙ kept.len;
      each = λ w lt. elim (eq_or (word_key w) k) [
        | inl here ↦ let P : ℕ → Type 0 = λ i. cell (set cs k (n, true)) i ≡ (count_at i (log ++ e ∷ []), true) in
            subst P (sym here) (get_or-set_same cs k (n, true) (0, false) (omega (arith, kept.len, low)) ∙ ap (λ (m : ℕ). (m, true)) (is ∙ sym (count-same k log e (touches-own e))))
        | inr apart ↦ get_or-set_other cs k (word_key w) (n, true) (0, false) apart ∙ (kept.each w lt ∙ ap (λ (m : ℕ). (m, true)) (sym (count-other (word_key w) log e (touches-other w e apart))))
      ];
    }

-- the word stays
kept_same : (cs : List Cell) (log : List Event) (v : Word) (n : ℕ) → word_key v < rows → AreCellsCounted cs log → n ≡ count_at (word_key v) log → AreCellsCounted (set cs (word_key v) (n, true)) (log ++ [])
kept_same cs log v n low kept is = let k : ℕ = word_key v in
    record {
      len = length-set cs k (n, true) ∙ kept.len;
      each = λ w lt. elim (eq_or (word_key w) k) [
        | inl here ↦ let P : ℕ → Type 0 = λ i. cell (set cs k (n, true)) i ≡ (count_at i (log ++ []), true) in
            subst P (sym here) (get_or-set_same cs k (n, true) (0, false) (omega (arith, kept.len, low)) ∙ ap (λ (m : ℕ). (m, true)) (is ∙ ap (count_at k) (sym (append-nil log))))
        | inr apart ↦ get_or-set_other cs k (word_key w) (n, true) (0, false) apart ∙ (kept.each w lt ∙ ap (λ (m : ℕ). (m, true)) (ap (count_at (word_key w)) (sym (append-nil log))))
      ];
    }

abbrev shown : List Event → List Event
shown log = log

abbrev Does : List Event → Event → ℕ → List Cell → List Event → Type 0
Does v e old = let k : ℕ = word_key (word_of e) in Goes AreCellsCounted shown (IsMove e) k (v, (no_nib, None)) (λ n. either (n == old) (old + 1) n) (Adds (step k old (old + 1) e) (v, (no_nib, None)))

does : (v : List Event) (e : Event) (old : ℕ) (cs : List Cell) (log : List Event) → IsInRow e → AreCellsCounted cs log → IsPrefix v log
    → (b : Bool) → ((cell cs (word_key (word_of e))).0 == old) ≡ b → Does v e old cs log
does v e old cs log low kept pre true is = let k : ℕ = word_key (word_of e) in
    let n : (cell cs k).0 ≡ count_at k log = ap (λ (c : Cell). c.0) (kept.each (word_of e) low) in
    let here : (cell cs k).0 ≡ old = grind (arith, nat_tests) in
    let t : Told = record { marker = record {}; won = true; before = log; log = log ++ e ∷ [] } in (
      keeps,
      e ∷ [],
      Some t,
      tt,
      rw is (kept_more cs log e (old + 1) low kept (omega (arith, n, here))),
      inr (t, refl, refl, (refl, refl, (low, refl))),
      (t, (refl, refl, pre, n, rw is refl)),
    )
does v e old cs log low kept pre false is = let k : ℕ = word_key (word_of e) in
    let n : (cell cs k).0 ≡ count_at k log = ap (λ (c : Cell). c.0) (kept.each (word_of e) low) in
    let t : Told = record { marker = record {}; won = false; before = log; log = log ++ [] } in (
      keeps,
      [],
      Some t,
      tt,
      rw is (kept_same cs log (word_of e) (cell cs k).0 low kept n),
      inr (t, refl, refl, (refl, refl, append-nil log)),
      (t, (refl, refl, pre, n, rw is (append-nil log))),
    )

-- whatever the book is when the word changes
pub adds_moves : (v : List Event) (e : Event) (old : ℕ) → IsInRow e → (k : ℕ) → k ≡ word_key (word_of e)
    → Moves AreCellsCounted shown (IsMove e) k (v, (no_nib, None)) (λ n. either (n == old) (old + 1) n) (Adds (step k old (old + 1) e) (v, (no_nib, None)))
adds_moves v e old low k at = let P : ℕ → Type 0 = λ i. Moves AreCellsCounted shown (IsMove e) i (v, (no_nib, None)) (λ n. either (n == old) (old + 1) n) (Adds (step i old (old + 1) e) (v, (no_nib, None))) in
    subst P (sym at) (λ cs log kept pre away.
    (omega (arith, kept.len, low), ap (λ (c : Cell). c.1) (kept.each (word_of e) low), does v e old cs log low kept pre ((cell cs (word_key (word_of e))).0 == old) refl))

-- a load changes nothing
pub looks_moves : (v : List Event) (w : Word) → word_key w < rows → (k : ℕ) → k ≡ word_key w
    → Moves AreCellsCounted shown (IsMove mark) k (v, (no_nib, None)) (λ n. n) (Looks (step k 0 0 mark) (v, (no_nib, None)))
looks_moves v w low k at = let P : ℕ → Type 0 = λ i. Moves AreCellsCounted shown (IsMove mark) i (v, (no_nib, None)) (λ n. n) (Looks (step i 0 0 mark) (v, (no_nib, None))) in
    subst P (sym at) (λ cs log kept pre away. let j : ℕ = word_key w in
    let n : (cell cs j).0 ≡ count_at j log = ap (λ (c : Cell). c.0) (kept.each w low) in
    let t : Told = record { marker = record {}; won = false; before = log ++ []; log = log ++ [] } in (
      omega (arith, kept.len, low),
      ap (λ (c : Cell). c.1) (kept.each w low),
      (
        keeps,
        [],
        Some t,
        tt,
        kept_same cs log w (cell cs j).0 low kept n,
        inr (t, refl, refl, (append-nil log, refl, append-nil log)),
        (t, (refl, refl, refl, n ∙ ap (count_at j) (sym (append-nil log)))),
      ),
    ))
