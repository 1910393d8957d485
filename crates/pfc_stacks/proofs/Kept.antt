-- What an activation keeps that takes the place of another.
use Rattle.std.proofs.Common.{◌≡◌, ◌≢◌, ℕ, ◌+◌, ◌-◌, ◌<◌, ◌≤◌, ℤ, pos, List, length, take, set, ◌∙◌, arith}
use Rattle.std.proofs.lemmas.List.{get_or_append_left, get_or-set_other, get_or-take, length-set, length-take-le}
use Rattle.pfc_code.specs.declared.images.Block.{Block}
use Rattle.pfc_stacks.specs.Activations.{replaced, block_cells, arguments}
use Rattle.pfc_stacks.specs.Stacks.{Stack, own_cells, own_word, block_place}

pub own_cells_kept : (k : ℕ) (b : Block) (s : Stack) (place : ℕ) → s.base + own_cells ≤ length s.cells → place < own_cells → place ≢ block_place
    → own_word (replaced k b s) place ≡ own_word s place
own_cells_kept k b s place there inside other =
    let own : List ℤ = take (s.base + own_cells) s.cells in
    let now : List ℤ = set own (s.base + block_place) (pos k) in
    let block : List ℤ = block_cells (arguments b s.operands) (b.cells - b.params) in
    let all : length own ≡ s.base + own_cells = length-take-le (s.base + own_cells) s.cells there in
    let same : length now ≡ length own = length-set own (s.base + block_place) (pos k) in
    let within : s.base + place < length now = omega arith in
    let apart : s.base + place ≢ s.base + block_place = λ e. other (omega arith) in
    get_or_append_left now block (pos 0) (s.base + place) within
    ∙ get_or-set_other own (s.base + block_place) (s.base + place) (pos k) (pos 0) apart
    ∙ get_or-take (s.base + own_cells) s.cells (s.base + place) (pos 0) (omega arith)
