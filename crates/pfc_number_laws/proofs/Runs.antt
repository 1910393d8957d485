-- Wherever a run comes all numbers have 32 bits.
use Rattle.std.proofs.Common.{ℕ, ◌==◌, Bool, true, false, if◌then◌else◌, List, [], ◌∷◌}
use Rattle.std.specs.List.{AllByRecursion}
use Rattle.pfc_semantics.specs.Programs.{Block, Program, found_block, block_at}
use Rattle.pfc_semantics.specs.Remainders.{Action, initials, delays}
use Rattle.pfc_semantics.specs.Configurations.{Config, start}
use Rattle.pfc_semantics.specs.Steps.{next_of}
use Rattle.pfc_semantics.specs.Time.{settled_config}
use Rattle.pfc_run_invariants.specs.Asked.{IsClosed}
use Rattle.pfc_run_invariants.specs.Inputs.{AreBytes}
use Rattle.pfc_run_invariants.specs.Remainders.{FitsAction}
use Rattle.pfc_run_invariants.specs.Configurations.{IsStable}
use Rattle.pfc_run_invariants.proofs.Runs.{settled_fits, start_fits, next_of_fits, step_fits}
use Rattle.pfc_number_laws.specs.Numbers.{numbers_of, KnowsConstants, HasNumbers, AreSmall}
use Rattle.pfc_number_laws.specs.Runs.{ComesTo, at_first, acts, TakesSmall}

found_knows : (bs : List Block) (i : ℕ) (other : Block) → AllByRecursion KnowsConstants bs → KnowsConstants other → KnowsConstants (found_block bs i other)
found_knows [] i other all one = one
found_knows (b ∷ bs) i other all one = by (b.scope == i) (found_knows bs i other all.1 one)
  where
    by : (t : Bool) → KnowsConstants (found_block bs i other) → KnowsConstants (if t then b else found_block bs i other)
    by true later = all.0
    by false later = later

module _ (g : Program) (small : HasNumbers g) where
  block_knows : (i : ℕ) → KnowsConstants (block_at g i)
  block_knows i = found_knows g.blocks i g.main small.blocks small.main

  closed : IsClosed (numbers_of g)
  closed =
      record {
        names = λ p ms env known. known;
        spots = λ p ms env x known. tt;
        outside = λ p ms. tt;
        accepts = λ p ms env i known here. known;
        calls = λ p ms env x n known is. block_knows _;
        requeues = λ p ms env x n known is. block_knows _;
        enters = λ p ms env x y j n known is exported. block_knows _;
        guards = λ p ms env known. known;
        begins = λ p n. block_knows _;
        idle = λ p n lives. block_knows _;
        nobody = λ p lives. small.main;
        living = λ c p acting. tt;
        main = small.main;
        inits = small.modules;
      }

  stable : IsStable (numbers_of g)
  stable =
      record {
        all = λ lives activations. tt;
        ends = λ p ms doing lives fits. fits;
        anew = λ c p old new env k acting finished known left. (known, left);
      }

  pub starts_small : (input : List ℕ) (seed : ℕ) → AreBytes input → AreSmall g (start g input seed)
  starts_small input seed bytes = start_fits (numbers_of g) closed small.program input seed bytes

  pub all_come_small : (first c : Config) → AreSmall g first → ComesTo g first c → AreSmall g c
  all_come_small first _ fits at_first = fits
  all_come_small first _ fits (acts d p choice before) =
      step_fits (numbers_of g) closed small.program stable (settled_config d) p choice
      (settled_fits (numbers_of g) stable d (all_come_small first d fits before)) tt

  takes_small : (n : Action) (p : ℕ) → FitsAction (numbers_of g) p [] n → TakesSmall n
  takes_small (initials x s n k) p fits = fits.1
  takes_small (delays x s n k) p fits = fits.1
  takes_small n p fits = tt

  pub numbers_are_small : (first c : Config) → AreSmall g first → ComesTo g first c → (p : ℕ) → TakesSmall (next_of g (settled_config c) p)
  numbers_are_small first c fits comes p =
      takes_small (next_of g (settled_config c) p) p
      (next_of_fits (numbers_of g) closed small.program (settled_config c) p
      (settled_fits (numbers_of g) stable c (all_come_small first c fits comes)) tt)
