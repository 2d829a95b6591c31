-- What is shown of a composed mapping (document 02, C-17): it is the theory's composite and an accepted mapping from S to U, even where both are, and Delta along
-- it is Delta along G and then F.
use Rattle.std.specs.Prelude.{ℕ, ◌<◌, ◌≤◌, ◌≡◌, List, length}
use Rattle.theory.specs.Mapping as theory_mapping
use Rattle.theory.specs.Mapping.{image, Even}
use Rattle.theory.specs.Composition as theory_composition
use Rattle.theory.specs.Composition.{SameImages}
use Rattle.meaning.specs.Category.{listed_category}
use Rattle.meaning.specs.Sheet.{sound}
use Rattle.meaning.specs.Formats.{Mapping, Instance, mapping_sheet}
use Rattle.meaning.specs.Views.{edge_image, mapping_of}
use Rattle.meaning.specs.Judge.{judge_schema, judge_mapping, judge_instance}
use Rattle.meaning.specs.Delta.{delta}
use Rattle.meaning.specs.Composition.{Composable}

-- ---- the two mappings, as the theory has them

abbrev pub mapping_f : Composable → theory_mapping.Mapping
mapping_f x = mapping_of x.S x.T x.F

abbrev pub mapping_g : Composable → theory_mapping.Mapping
mapping_g x = mapping_of x.T x.U x.G

-- ---- accepted sheets

pub record ComposeInputs (s t u f g : List ℕ) (x : Composable) : Type 0 where
  pub s_accepted : judge_schema s ≡ sound x.S
  pub t_accepted : judge_schema t ≡ sound x.T
  pub u_accepted : judge_schema u ≡ sound x.U
  pub f_accepted : judge_mapping (listed_category x.S) (listed_category x.T) f ≡ sound x.F
  pub g_accepted : judge_mapping (listed_category x.T) (listed_category x.U) g ≡ sound x.G

-- h is the sheet of H, which is accepted as a mapping from S to U
pub record ComposeAgrees (s t u f g h : List ℕ) : Type 0 where
  pub x : Composable
  pub inputs : ComposeInputs s t u f g x
  pub H : Mapping
  pub sheet_is : h ≡ mapping_sheet H
  pub h_accepted : judge_mapping (listed_category x.S) (listed_category x.U) h ≡ sound H
  pub is_composite : SameImages (theory_composition.composite (mapping_f x) (mapping_g x)) (mapping_of x.S x.U H)
  -- joined as they are, images fit their field, since U has no loop
  pub few_edges : (e : ℕ) → e < length x.S.graph.edges → length (image (edge_image x.G) (edge_image x.F e)) ≤ 15
  pub is-even : Even (mapping_f x) → Even (mapping_g x) → Even (mapping_of x.S x.U H)
  -- pulling a book back in one hop and in two gives the same tables, however many rows they have
  pub pulls_back : (j : List ℕ) {J : Instance} → judge_instance x.U j ≡ sound J → delta x.S H J ≡ delta x.S x.F (delta x.T x.G J)
