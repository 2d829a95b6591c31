-- Evenness by the arrays of the tables of paths.
use Rattle.std.specs.Prelude.{ℕ, zero, suc, Bool, true, false, cond, ◌&&◌, List, get_or, set, replicate, length, eqb, is_some, Option, Some, None}
use Rattle.meaning.specs.Lists.{upto, filter, all}
use Rattle.meaning.specs.Schema as meaning
use Rattle.meaning.specs.Formats as formats
use Rattle.meaning.specs.Views.{path_image}
use Rattle.agreement.specs.Paths.{path_at, class_number}
use Rattle.schema.specs.declared.Schema.{Schema}
use Rattle.paths.specs.declared.Paths.{Paths}
use Rattle.mapping.specs.declared.Mapping.{Mapping}

-- ---- paths: `over` has the class of the image of each path of S

-- the class of the image of path i
abbrev pub image_class : meaning.Schema → meaning.Schema → formats.Mapping → ℕ → ℕ
image_class S T F i = class_number T (path_image F (path_at S.graph i))

-- for each class of T the class of a path over it, the last of the first k paths that starts at c, if there is one
abbrev pub lift_classes : List ℕ → List ℕ → List ℕ → ℕ → ℕ → List (Option ℕ)
lift_classes start class over c zero = replicate 256 None
lift_classes start class over c (suc k) =
    cond (eqb (get_or start k 0) c) (set (lift_classes start class over c k) (get_or over k 0) (Some (get_or class k 0))) (lift_classes start class over c k)

-- there is a class, and it is x
abbrev pub is_class : Option ℕ → ℕ → Bool
is_class None x = false
is_class (Some y) x = eqb y x

-- path k, where it starts at c, has the class over its image's class
abbrev pub unique_at : List ℕ → List ℕ → List ℕ → List (Option ℕ) → ℕ → ℕ → Bool
unique_at start class over lifts c k = cond (eqb (get_or start k 0) c) (is_class (get_or lifts (get_or over k 0) None) (get_or class k 0)) true

-- there is a class over path k of T, where that starts at d
abbrev pub has_lift_at : List ℕ → List ℕ → List (Option ℕ) → ℕ → ℕ → Bool
has_lift_at start class lifts d k = cond (eqb (get_or start k 0) d) (is_some (get_or lifts (get_or class k 0) None)) true

-- each path of T from d has one lift at c
abbrev pub each_has_one_lift : List ℕ → List ℕ → List ℕ → ℕ → List ℕ → List ℕ → ℕ → ℕ → ℕ → Bool
each_has_one_lift start class over n target-start target-class m c d =
    all (unique_at start class over (lift_classes start class over c n) c) (upto n) && all (has_lift_at target-start target-class (lift_classes start class over c n) d) (upto m)

abbrev pub even_paths_at : Paths → Paths → List ℕ → List ℕ → ℕ → Bool
even_paths_at source-paths target-paths over node c =
    each_has_one_lift source-paths.start source-paths.class over source-paths.count target-paths.start target-paths.class target-paths.count c (get_or node c 0)

-- ---- attributes

-- attribute a sits at c and has the image b
abbrev pub is_over : List ℕ → List ℕ → ℕ → ℕ → ℕ → Bool
is_over home image c b a = eqb (get_or home a 0) c && eqb (get_or image a 0) b

-- one of the first n attributes does, where b sits at d
abbrev pub even_column_at : List ℕ → List ℕ → ℕ → List ℕ → ℕ → ℕ → ℕ → Bool
even_column_at home image n target-home c d b = cond (eqb (get_or target-home b 0) d) (eqb (length (filter (is_over home image c b) (upto n))) 1) true

abbrev pub even_columns_at : Schema → Schema → Mapping → ℕ → Bool
even_columns_at s t f c = all (even_column_at s.node f.attribute s.attributes t.node c (get_or f.node c 0)) (upto t.attributes)
