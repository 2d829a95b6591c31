-- A query (source document 000, definition 2): Sigma after Pi after Delta. F goes from the second schema to the first, G from the second to the third, H
-- from the third to the fourth.
use Rattle.theory.specs.Instance.{Instance, Alike}
use Rattle.theory.specs.Mapping.{Mapping, delta}
use Rattle.theory.specs.Sigma.{IsSigma}
use Rattle.theory.specs.Pi.{IsPi}

-- Q is what the query gives of I, by way of D and P: D is Delta along F of I, P is Pi along G of D, and Q is Sigma along H of P. All of Q is determined so
-- where the schemas are shared, the attribute mapping of G is a bijection and H is even
pub record IsQuery {W : Type 0} (F G H : Mapping) (I D P Q : Instance W) : Type 0 where
  pub is_delta : Alike F.S D (delta F I)
  pub is_pi : IsPi G D P
  pub is_sigma : IsSigma H P Q
