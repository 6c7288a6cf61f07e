-- The keys of a file stand together.
use Rattle.std.proofs.Common.{◌≡◌, ℕ, ◌<◌, ◌≤◌, Bool, true, false, cond, T, List, [], ◌∷◌, ◌++◌, Option, Some, None, ap, ◌∙◌, refl, arith, eq-eqb}
use Rattle.std.specs.Prelude.{◌==◌}
use Rattle.std.specs.List as lists
use Rattle.std.specs.Ordering.{nat_cmp, ordering_then}
use Rattle.std.specs.Cmp.{ranked}
use Rattle.std.specs.declared.cmp.Ordering.{Ordering}
use Rattle.std.specs.declared.cmp.Ordering.TheVariants.{Less, Equal, Greater}
use Rattle.std.specs.Option.{option_map}
use Rattle.std.specs.FinMap.{entries-from_sorted}
use Rattle.std.specs.FinMap.Entries.{below_all}
use Rattle.rz_events.specs.Keys.{key_cmp}
use Rattle.rz_events.specs.declared.keys.Key.{Key}
use Rattle.rz_index.specs.declared.index.Entry.{Entry}
use Rattle.rz_index.specs.Indexed.{pairs_of, IsSorted, first_of_file}
use Rattle.rz_index.proofs.Row.{first, second, less, made}
use Rattle.rz_index.proofs.Parts.{below-middle, back-sorted}
use Rattle.rz_index.proofs.Cells.{not-same}

file_above : (a f p q : ℕ) (o : Ordering) → o ≡ nat_cmp a f → ordering_then o (nat_cmp p q) ≡ Less → a ≤ f
file_above a f p q Less o h = let lt : a < f = ranked a f Less o in omega arith
file_above a f p q Equal o h = let same : a ≡ f = ranked a f Equal o in omega arith
file_above a f p q Greater o h = cc

abbrev pub of-file : ℕ → List Entry → Option (Key × Entry)
of-file fid es = lists.find (λ p. p.0.fid == fid) (pairs_of es)

step : (fid : ℕ) (e : Entry) (es : List Entry) (b : Bool) → (e.key.fid == fid) ≡ b → of-file fid (e ∷ es) ≡ cond b (Some (e.key, e)) (of-file fid es)
step fid e es b h = ap (λ c. cond c (Some (e.key, e)) (of-file fid es)) h

none-above : (fid : ℕ) (k : Key) (es : List Entry) → fid < k.fid → T (below_all key_cmp k (pairs_of es)) → of-file fid es ≡ None
none-above fid k [] lt h = refl
none-above fid k (e ∷ es) lt h =
    let above : k.fid ≤ e.key.fid = file_above k.fid e.key.fid k.block e.key.block _ refl (less (key_cmp k e.key) (first _ _ h)) in
    step fid e es false (not-same e.key.fid fid (λ same. omega arith)) ∙ none-above fid k es lt (second _ _ h)

-- the first entry of a file
abbrev pub first_in : ℕ → List Entry → Option Entry
first_in fid es = option_map (λ p. p.1) (of-file fid es)

none-below : (fid : ℕ) (l : List Entry) (m : Entry) (r : List Entry) → IsSorted (l ++ m ∷ r) → m.key.fid < fid → of-file fid (l ++ m ∷ r) ≡ of-file fid r
none-below fid [] m r s lt = step fid m r false (not-same m.key.fid fid (λ same. omega arith))
none-below fid (e ∷ l) m r s lt =
    let above : e.key.fid ≤ m.key.fid = file_above e.key.fid m.key.fid e.key.block m.key.block _ refl (below-middle e.key l m r (first _ _ s)) in
    step fid e (l ++ m ∷ r) false (not-same e.key.fid fid (λ same. omega arith)) ∙ none-below fid l m r (second _ _ s) lt

pub file-behind : (fid : ℕ) (l : List Entry) (m : Entry) (r : List Entry) → IsSorted (l ++ m ∷ r) → m.key.fid < fid → first_in fid (l ++ m ∷ r) ≡ first_in fid r
file-behind fid l m r s lt = ap (option_map (λ p. p.1)) (none-below fid l m r s lt)

front-step : (x : Entry) (front all : Option (Key × Entry)) (e : Entry) (b : Bool) → (option_map (λ p. p.1) front ≡ Some e → option_map (λ p. p.1) all ≡ Some e)
    → option_map (λ p. p.1) (cond b (Some (x.key, x)) front) ≡ Some e → option_map (λ p. p.1) (cond b (Some (x.key, x)) all) ≡ Some e
front-step x front all e true rest is = is
front-step x front all e false rest is = rest is

pub file-front : (fid : ℕ) (l xs : List Entry) (e : Entry) → first_in fid l ≡ Some e → first_in fid (l ++ xs) ≡ Some e
file-front fid [] xs e is = absurd (cc)
file-front fid (x ∷ l) xs e is = front-step x _ _ e (x.key.fid == fid) (file-front fid l xs e) is

none-step : (x : Entry) (front all : Option (Key × Entry)) (back : Option Entry) (b : Bool) → (option_map (λ p. p.1) front ≡ None → option_map (λ p. p.1) all ≡ back)
    → option_map (λ p. p.1) (cond b (Some (x.key, x)) front) ≡ None → option_map (λ p. p.1) (cond b (Some (x.key, x)) all) ≡ back
none-step x front all back true rest is = absurd (cc)
none-step x front all back false rest is = rest is

none-front : (fid : ℕ) (l xs : List Entry) → first_in fid l ≡ None → first_in fid (l ++ xs) ≡ first_in fid xs
none-front fid [] xs is = refl
none-front fid (x ∷ l) xs is = none-step x _ _ _ (x.key.fid == fid) (none-front fid l xs) is

pub file-middle : (fid : ℕ) (l : List Entry) (m : Entry) (r : List Entry) → first_in fid l ≡ None → m.key.fid ≡ fid → first_in fid (l ++ m ∷ r) ≡ Some m
file-middle fid l m r none is = none-front fid l (m ∷ r) none ∙ ap (option_map (λ p. p.1)) (step fid m r true (eq-eqb m.key.fid fid is))

pub file-nowhere : (fid : ℕ) (l : List Entry) (m : Entry) (r : List Entry) → IsSorted (l ++ m ∷ r) → first_in fid l ≡ None → fid < m.key.fid → first_in fid (l ++ m ∷ r) ≡ None
file-nowhere fid l m r s none lt =
    none-front fid l (m ∷ r) none
    ∙ ap (option_map (λ p. p.1)) (step fid m r false (not-same m.key.fid fid (λ same. omega arith)) ∙ none-above fid m.key r lt (first _ _ (back-sorted l (m ∷ r) s)))

pub first-made : (fid : ℕ) (es : List Entry) → IsSorted es → first_of_file (made es) fid ≡ option_map (λ p. p.1) (of-file fid es)
first-made fid es s = ap (λ (ps : List (Key × Entry)). option_map (λ p. p.1) (lists.find (λ p. p.0.fid == fid) ps)) (entries-from_sorted key_cmp (pairs_of es) s)
