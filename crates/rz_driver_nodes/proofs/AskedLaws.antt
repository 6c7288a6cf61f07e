-- One ask more of nodes, or none.
use Rattle.std.proofs.Common.{◌∙◌, refl, ℕ, List, [], ◌∷◌}
use Rattle.rz_nodes.specs.declared.formatting.Server.{Server}
use Rattle.rz_driver_nodes.specs.Asked.{IsServerOnlyAsked, AreOnlyAsked}

pub one-itself : {D : Type 0} (text : D → List ℕ) (image : D → List ℕ → Type 0) (s : Server D) → IsServerOnlyAsked text image s s
one-itself text image s = record { called = record { sid = refl; pick = refl; geometry = refl }; fence = refl; text_is = refl; within = λ c has. has }

pub all-themselves : {D : Type 0} (text : D → List ℕ) (image : D → List ℕ → Type 0) (xs : List (Server D)) → AreOnlyAsked text image xs xs
all-themselves text image [] = tt
all-themselves text image (s ∷ xs) = (one-itself text image s, all-themselves text image xs)

one-then : {D : Type 0} (text : D → List ℕ) (image : D → List ℕ → Type 0) (a b c : Server D) → IsServerOnlyAsked text image a b → IsServerOnlyAsked text image b c → IsServerOnlyAsked text image a c
one-then text image a b c p q = record {
  called = record { sid = q.called.sid ∙ p.called.sid; pick = q.called.pick ∙ p.called.pick; geometry = q.called.geometry ∙ p.called.geometry };
  fence = q.fence ∙ p.fence;
  text_is = q.text_is ∙ p.text_is;
  within = λ c' has. p.within c' (q.within c' has);
}

pub all-then : {D : Type 0} (text : D → List ℕ) (image : D → List ℕ → Type 0) (xs ys zs : List (Server D)) → AreOnlyAsked text image xs ys → AreOnlyAsked text image ys zs → AreOnlyAsked text image xs zs
all-then text image [] [] [] p q = tt
all-then text image [] [] (z ∷ zs) p q = q
all-then text image [] (y ∷ ys) zs p q = absurd p
all-then text image (x ∷ xs) [] zs p q = absurd p
all-then text image (x ∷ xs) (y ∷ ys) [] p q = q
all-then text image (x ∷ xs) (y ∷ ys) (z ∷ zs) p q = (one-then text image x y z p.0 q.0, all-then text image xs ys zs p.1 q.1)
