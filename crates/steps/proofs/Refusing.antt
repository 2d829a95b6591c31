-- Steps grouped otherwise.
use mathlib.Core.Path.{◌≡◌, refl}
use Rattle.meaning.specs.Calls.{Outcome, refused, accepted, ◌>>=◌}

pub bind_assoc : {A B C : Type 0} (o : Outcome A) (f : A → Outcome B) (g : B → Outcome C) (h : A → Outcome C) → ((a : A) → (f a >>= g) ≡ h a) → ((o >>= f) >>= g) ≡ (o >>= h)
bind_assoc (refused n place) f g h e = refl
bind_assoc (accepted a) f g h e = e a
