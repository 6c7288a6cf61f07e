-- Reading lines one after the other, as a loop does.
use Rattle.std.proofs.Common.{◌≡◌, ℕ, suc, ◌+◌, ◌==◌, true, List, [], ◌∷◌, ◌++◌, length, Option, Some, None, Result, Ok, Err, refl, sym, ap, ◌∙◌, append_assoc, arith, ne_eqb}
use Rattle.std.specs.List.{cons_option}
use Rattle.std.proofs.lemmas.List.{append-nil}
use Rattle.rz_events.specs.Volume.{Volume}
use Rattle.rz_script_words.specs.declared.form.Form.{Form}
use Rattle.rz_script.specs.declared.fault.ScriptError.{ScriptError}
use Rattle.rz_script.specs.declared.fault.ScriptError.TheVariants as errors
use Rattle.rz_script.specs.declared.line.Line.{Line}
use Rattle.rz_script_words.specs.Grammar.{words}
use Rattle.rz_script.specs.Grammar.{line, at_line, join, lines_from}
use Rattle.rz_script.specs.Given.{AddsLine, FailsScript, GivesScript}

-- a text without bytes has no line
pub no_bytes : (form : Form) (v : Volume) (text : List ℕ) → (length text == 0) ≡ true → line form v (words text) ≡ Ok None
unfolding line
no_bytes form v [] h = refl
no_bytes form v (b ∷ bs) h = let full = ne_eqb (suc (length bs)) 0 (λ e. omega arith) in absurd cc

-- what was read before, and what is still read
abbrev pub with_front : List Line → Result (List Line) ScriptError → Result (List Line) ScriptError
with_front front (Ok ls) = Ok (front ++ ls)
with_front front (Err f) = Err f

joined : (front : List Line) (o : Option Line) (read : Result (List Line) ScriptError) → with_front front (join (Ok o) read) ≡ with_front (front ++ cons_option o []) read
joined front None (Ok ls) = ap (λ (x : List Line). Ok (x ++ ls)) (sym (append-nil front))
joined front (Some l) (Ok ls) = ap (λ (x : List Line). Ok x) (sym (append_assoc front (l ∷ []) ls))
joined front None (Err f) = refl
joined front (Some l) (Err f) = refl

failed : (front : List Line) (f : ScriptError) (read : Result (List Line) ScriptError) → with_front front (join (Err f) read) ≡ Err f
failed front f (Ok ls) = refl
failed front f (Err g) = refl

module _ (form : Form) (v : Volume) (front : List Line) (n : ℕ) (texts : List (List ℕ)) (text : List ℕ) (more : List (List ℕ)) (total : Result (List Line) ScriptError) where
  pub goes_on : (o : Option Line) → texts ≡ text ∷ more → line form v (words text) ≡ Ok o → with_front front (lines_from form v n texts) ≡ total → with_front (front ++ cons_option o []) (lines_from form v (n + 1) more) ≡ total
  unfolding lines_from
  goes_on o cut is so_far =
      let one : with_front front (lines_from form v n texts) ≡ with_front (front ++ cons_option o []) (lines_from form v (n + 1) more) = rw (cut, is) (joined front o (lines_from form v (n + 1) more)) in
      sym one ∙ so_far

  pub ends : (e : ScriptError) → texts ≡ text ∷ more → FailsScript e (at_line n (line form v (words text))) → with_front front (lines_from form v n texts) ≡ total → FailsScript e total
  unfolding lines_from
  ends errors.NoMemory cut is so_far = tt
  ends (errors.Script m c) cut is so_far = sym so_far ∙ rw (cut, is) (failed front (errors.Script m c) (lines_from form v (n + 1) more))
  ends (errors.Volume f) cut is so_far = sym so_far ∙ rw (cut, is) (failed front (errors.Volume f) (lines_from form v (n + 1) more))

is_done : (form : Form) (v : Volume) (front : List Line) (n : ℕ) (total : Result (List Line) ScriptError) → with_front front (lines_from form v n []) ≡ total → total ≡ Ok front
unfolding lines_from
is_done form v front n total so_far = sym so_far ∙ ap (λ (x : List Line). Ok x) (append-nil front)

-- the last line was added, or had its fault
pub added : (form : Form) (v : Volume) (front found : List Line) (n : ℕ) (texts : List (List ℕ)) (text : List ℕ) (total : Result (List Line) ScriptError) (r : Result (Unit {0}) ScriptError) → texts ≡ text ∷ []
    → AddsLine front found n (line form v (words text)) r → with_front front (lines_from form v n texts) ≡ total → GivesScript (λ _. found) r total
added form v front found n texts text total (Ok u) cut (o, is, e) so_far =
    rw e (is_done form v (front ++ cons_option o []) (n + 1) total (goes_on form v front n texts text [] total o cut is so_far))
added form v front found n texts text total (Err e) cut fails so_far = ends form v front n texts text [] total e cut fails so_far
