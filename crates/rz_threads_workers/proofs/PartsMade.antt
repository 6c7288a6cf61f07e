-- Parts of workers that are made one after another.
use Rattle.std.proofs.Common.{◌≡◌, ℕ, List, [], ◌∷◌, ◌++◌, sym, ap, ◌∙◌, subst, append-nil, append_assoc}
use Rattle.std.specs.List.{AllByRecursion, AllZip}
use Rattle.rz_script.specs.declared.line.Line.{Line}
use Rattle.rz_chronicle.specs.Rules.{PassView}
use Rattle.rz_threads_workers.specs.declared.worker_parts.WorkerParts.{WorkerParts}
use Rattle.rz_threads_workers.specs.WorkerPool.{IsNewPass, AreWorkerParts}
use Rattle.rz_threads_workers.proofs.Pairs.{zip-more}

module _ {J : Type 0} (kind : List ℕ) (lines : List Line) where
  -- the first of the actors have what they have to do, and the rest have done nothing
  pub record SoFar (all rest : List PassView) (all_parts : List (WorkerParts J)) : Type 0 where
    pub taken : List PassView
    pub split : all ≡ taken ++ rest
    pub made : AllZip (AreWorkerParts kind lines) taken all_parts
    pub new : AllByRecursion IsNewPass rest

  pub so-far-first : (all rest : List PassView) (all_parts : List (WorkerParts J)) → rest ≡ all → all_parts ≡ [] → AllByRecursion IsNewPass all → SoFar all rest all_parts
  so-far-first all rest all_parts same none new = record {
    taken = [];
    split = sym same;
    made = subst (AllZip (AreWorkerParts kind lines) []) (sym none) tt;
    new = subst (AllByRecursion IsNewPass) (sym same) new;
  }

  pub next-new : (all rest rest' : List PassView) (p : PassView) (all_parts : List (WorkerParts J)) → rest ≡ p ∷ rest' → SoFar all rest all_parts → IsNewPass p
  next-new all rest rest' p all_parts is s = (subst (AllByRecursion IsNewPass) is s.new).0

  pub so-far-more : (all rest rest' : List PassView) (p : PassView) (all_parts recruits' : List (WorkerParts J)) (r : WorkerParts J) → rest ≡ p ∷ rest' → recruits' ≡ all_parts ++ r ∷ [] → AreWorkerParts kind lines p r → SoFar all rest all_parts → SoFar all rest' recruits'
  so-far-more all rest rest' p all_parts recruits' r is more here s = record {
    taken = s.taken ++ p ∷ [];
    split = s.split ∙ (ap (λ (ps : List PassView). s.taken ++ ps) is ∙ sym (append_assoc s.taken (p ∷ []) rest'));
    made = subst (AllZip (AreWorkerParts kind lines) (s.taken ++ p ∷ [])) (sym more) (zip-more (AreWorkerParts kind lines) s.taken all_parts p r s.made here);
    new = (subst (AllByRecursion IsNewPass) is s.new).1;
  }

  pub so-far-all : (all rest : List PassView) (all_parts : List (WorkerParts J)) → rest ≡ [] → SoFar all rest all_parts → AllZip (AreWorkerParts kind lines) all all_parts
  so-far-all all rest all_parts none s =
      subst (λ (ps : List PassView). AllZip (AreWorkerParts kind lines) ps all_parts) (sym (s.split ∙ (ap (λ (ps : List PassView). s.taken ++ ps) none ∙ append-nil s.taken))) s.made
