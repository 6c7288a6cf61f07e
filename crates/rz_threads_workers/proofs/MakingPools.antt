-- Parts that get their links one after another.
use Rattle.std.proofs.Common.{◌≡◌, ◌≤◌, ◌+◌, ℕ, List, [], ◌∷◌, ◌++◌, map, length, sym, ap, ◌∙◌, subst, arith, append-nil, append_assoc, length-append}
use Rattle.std.specs.Prelude.{reverse}
use Rattle.std.proofs.lemmas.List.{length-reverse, map-append, reverse-append, reverse-reverse}
use Rattle.std.specs.List.{AllByRecursion, AllZip}
use Rattle.rz_script.specs.declared.line.Line.{Line}
use Rattle.rz_events.specs.declared.operations.Operation.{Operation}
use Rattle.rz_chronicle.specs.Rules.{PassView}
use Rattle.rz_threads_worker.specs.Workers.{agenda_with}
use Rattle.rz_threads_workers.specs.declared.pool_worker.PoolWorker.{PoolWorker}
use Rattle.rz_threads_workers.specs.declared.worker_parts.WorkerParts.{WorkerParts}
use Rattle.rz_threads_workers.specs.WorkerPool.{link_of, CanJoin, IsMadeOf, AreWorkerParts, IsPoolWorker}
use Rattle.rz_threads_workers.proofs.Pairs.{zip-more, zip-length}

module _ {J L : Type 0} (kind : List ℕ) where
  -- the first of them are workers with their links; of the links that are left the last is the next
  pub record SoFar (all rest : List (WorkerParts J)) (workers : List (PoolWorker J L)) (left links : List L) : Type 0 where
    pub taken : List (WorkerParts J)
    pub split : all ≡ taken ++ rest
    pub hired : AllZip (IsMadeOf kind) taken workers
    pub linked : map link_of workers ++ reverse left ≡ links
    pub can : AllByRecursion (CanJoin kind) rest
    pub count : length left ≡ length rest

  pub so-far-first : (all rest : List (WorkerParts J)) (workers : List (PoolWorker J L)) (left links : List L) → rest ≡ all → AllByRecursion (CanJoin kind) all → length workers ≡ 0 → left ≡ reverse links → length links ≡ length all
      → SoFar all rest workers left links
  so-far-first all rest [] left links same can none turned count = record {
    taken = [];
    split = sym same;
    hired = tt;
    linked = ap reverse turned ∙ reverse-reverse links;
    can = subst (AllByRecursion (CanJoin kind)) (sym same) can;
    count = ap length turned ∙ (length-reverse links ∙ (count ∙ sym (ap length same)));
  }
  so-far-first all rest (m ∷ workers) left links same can none turned count = absurd (omega (arith, none))

  pub next-can : (all rest rest' : List (WorkerParts J)) (r : WorkerParts J) (workers : List (PoolWorker J L)) (left links : List L) → rest ≡ r ∷ rest' → SoFar all rest workers left links → CanJoin kind r
  next-can all rest rest' r workers left links is s = (subst (AllByRecursion (CanJoin kind)) is s.can).0

  -- one more link is left, and one more worker fits
  pub one-left : (all rest rest' : List (WorkerParts J)) (r : WorkerParts J) (workers : List (PoolWorker J L)) (left links : List L) → rest ≡ r ∷ rest' → SoFar all rest workers left links → 1 ≤ length left
  one-left all rest rest' r workers left links is s = (let count = s.count in let long = ap length is in omega (arith, count, long))

  pub one-fits : (all rest rest' : List (WorkerParts J)) (r : WorkerParts J) (workers : List (PoolWorker J L)) (left links : List L) → rest ≡ r ∷ rest' → SoFar all rest workers left links → length workers + 1 ≤ length all
  one-fits all rest rest' r workers left links is s =
      let long = ap length is in
      let both = ap length s.split ∙ length-append s.taken rest in
      let same = zip-length (IsMadeOf kind) s.taken workers s.hired in
      omega (arith, long, both, same)

  linked-next : (workers : List (PoolWorker J L)) (m : PoolWorker J L) (left left' links : List L) (link : L) → left ≡ left' ++ link ∷ [] → link_of m ≡ link → map link_of workers ++ reverse left ≡ links → map link_of (workers ++ m ∷ []) ++ reverse left' ≡ links
  linked-next workers m left left' links link is same was =
      let rest : List L = reverse left' in
      let turned : reverse left ≡ link ∷ reverse left' = ap reverse is ∙ reverse-append left' (link ∷ []) in
      let more : map link_of (workers ++ m ∷ []) ≡ map link_of workers ++ link ∷ [] = map-append link_of workers (m ∷ []) ∙ ap (λ (l : L). map link_of workers ++ l ∷ []) same in
      ap (λ (ls : List L). ls ++ rest) more ∙ append_assoc (map link_of workers) (link ∷ []) rest ∙ sym (ap (λ (ls : List L). map link_of workers ++ ls) turned) ∙ was

  pub so-far-more : (all rest rest' : List (WorkerParts J)) (r : WorkerParts J) (workers members' : List (PoolWorker J L)) (m : PoolWorker J L) (left left' links : List L) (link : L) → rest ≡ r ∷ rest' → members' ≡ workers ++ m ∷ [] → left ≡ left' ++ link ∷ []
      → IsMadeOf kind r m → link_of m ≡ link → SoFar all rest workers left links → SoFar all rest' members' left' links
  so-far-more all rest rest' r workers members' m left left' links link is more popped here same s =
      let fewer = ap length popped ∙ length-append left' (link ∷ []) in
      let long = ap length is in
      let count = s.count in
      record {
        taken = s.taken ++ r ∷ [];
        split = s.split ∙ (ap (λ (rs : List (WorkerParts J)). s.taken ++ rs) is ∙ sym (append_assoc s.taken (r ∷ []) rest'));
        hired = subst (AllZip (IsMadeOf kind) (s.taken ++ r ∷ [])) (sym more) (zip-more (IsMadeOf kind) s.taken workers r m s.hired here);
        linked = ap (λ (ms : List (PoolWorker J L)). map link_of ms ++ reverse left') more ∙ linked-next workers m left left' links link popped same s.linked;
        can = (subst (AllByRecursion (CanJoin kind)) is s.can).1;
        count = omega (arith, fewer, long, count);
      }

  -- all workers are made

  pub so-far-all : (all rest : List (WorkerParts J)) (workers : List (PoolWorker J L)) (left links : List L) → rest ≡ [] → SoFar all rest workers left links → AllZip (IsMadeOf kind) all workers
  so-far-all all rest workers left links none s =
      subst (λ (rs : List (WorkerParts J)). AllZip (IsMadeOf kind) rs workers) (sym (s.split ∙ (ap (λ (rs : List (WorkerParts J)). s.taken ++ rs) none ∙ append-nil s.taken))) s.hired

  pub none-left : (all rest : List (WorkerParts J)) (workers : List (PoolWorker J L)) (left links : List L) → rest ≡ [] → SoFar all rest workers left links → length left ≡ 0
  none-left all rest workers left links none s = s.count ∙ ap length none

  pub all-linked : (all rest : List (WorkerParts J)) (workers : List (PoolWorker J L)) (left links : List L) → rest ≡ [] → SoFar all rest workers left links → map link_of workers ≡ links
  all-linked all rest workers [] links none s = sym (append-nil (map link_of workers)) ∙ s.linked
  all-linked all rest workers (l ∷ left) links none s = (let empty = s.count ∙ ap length none in absurd (omega (arith, empty)))

  -- parts with what the lines give their actor became a worker that has this to do
  pub staffed : (lines : List Line) (p : PassView) (r : WorkerParts J) (m : PoolWorker J L) → AreWorkerParts kind lines p r → IsMadeOf kind r m → IsPoolWorker kind lines p m
  staffed lines p r m made hired = record {
    pass = hired.pass ∙ made.pass;
    ready = hired.ready;
    agenda = hired.agenda ∙ ap (λ (ops : List Operation). agenda_with ops) made.todo;
    wants = hired.wants;
  }
