-- The head of a script, line by line.
use Rattle.std.proofs.Common.{◌≡◌, ℕ, ◌+◌, ◌<◌, List, [], ◌∷◌, length, Result, refl, sym, ◌∙◌, arith}
use Rattle.rz_config.specs.Plain.{plain_volume}
use Rattle.rz_script_words.specs.declared.form.Form.{Form}
use Rattle.rz_script.specs.declared.fault.ScriptError.{ScriptError}
use Rattle.rz_script.specs.declared.reading.LineRole.TheVariants as heads
use Rattle.rz_script.specs.Scripts.{Script}
use Rattle.rz_script_words.specs.Grammar.{words, after_word}
use Rattle.rz_script.specs.Grammar.{lines_from, line, head, headed, given, with_lines}

-- a line that gives the volume has bytes
pub has_bytes : (text : List ℕ) → heads.Volume ≡ head (words text) → 0 < length text
unfolding head
has_bytes [] is = absurd cc
has_bytes (b ∷ bs) is = omega arith

module _ (form : Form) (n : ℕ) (texts : List (List ℕ)) (text : List ℕ) (more : List (List ℕ)) (total : Result Script ScriptError) (cut : texts ≡ text ∷ more) (so_far : headed form n texts ≡ total) where
  pub passes : heads.Passed ≡ head (words text) → headed form (n + 1) more ≡ total
  unfolding headed
  passes is = let one : headed form n texts ≡ headed form (n + 1) more = rw (cut, ← is) refl in sym one ∙ so_far

  pub gives : heads.Volume ≡ head (words text) → total ≡ given n (after_word text) (λ v. lines_from form v (n + 1) more)
  unfolding headed
  gives is = sym so_far ∙ rw (cut, ← is) refl

  pub others : heads.Other ≡ head (words text) → total ≡ with_lines plain_volume (lines_from form plain_volume n texts)
  unfolding headed
  others is = sym so_far ∙ rw (cut, ← is) refl

-- after the last line there is an empty one
pub last_given : (form : Form) (n : ℕ) (json : List ℕ) → given n json (λ v. lines_from form v (n + 1) []) ≡ given n json (λ v. lines_from form v (n + 1) ([] ∷ []))
unfolding lines_from line
last_given form n json = refl

pub no_lines_left : (form : Form) (n m : ℕ) → headed form n [] ≡ with_lines plain_volume (lines_from form plain_volume m ([] ∷ []))
unfolding headed lines_from line
no_lines_left form n m = refl
