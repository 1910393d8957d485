use Rattle.pfc_image_laws.proofs.Layouts.{image_laid, image_lines, image_count, image_processes}
use Rattle.pfc_image_laws.proofs.Arms.{image_opens}
use Rattle.pfc_image_laws.proofs.laws.images_are_laid_out.Goals as goal

pub returns-clause-layout : goal.returns-clause-layout
returns-clause-layout c = λ t. image_laid t

pub returns-clause-lines : goal.returns-clause-lines
returns-clause-lines c = λ t. image_lines t

pub returns-clause-blocks : goal.returns-clause-blocks
returns-clause-blocks c = λ t. image_count t

pub returns-clause-processes : goal.returns-clause-processes
returns-clause-processes c = λ t. image_processes t

pub returns-clause-alternatives : goal.returns-clause-alternatives
returns-clause-alternatives c = λ t. image_opens t
