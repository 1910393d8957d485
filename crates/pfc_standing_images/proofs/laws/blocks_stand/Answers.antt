use Rattle.pfc_standing_images.proofs.Wholes.{block_stands, main_stands, scan_stands, scans_counted}
use Rattle.pfc_standing_images.proofs.Numbers.{block_there}
use Rattle.pfc_standing_images.proofs.laws.blocks_stand.Goals as goal

pub returns-clause-blocks : goal.returns-clause-blocks
returns-clause-blocks c = λ t g k b block of_image e f. block_stands t g of_image k b block e f

pub returns-clause-numbers : goal.returns-clause-numbers
returns-clause-numbers c = λ p i k b is scope. block_there p i k b is scope

pub returns-clause-main : goal.returns-clause-main
returns-clause-main c = λ t g block of_image e. main_stands t g of_image block e

pub returns-clause-scans : goal.returns-clause-scans
returns-clause-scans c = λ t g r at of_image e. scan_stands t g of_image r at e

pub returns-clause-resources : goal.returns-clause-resources
returns-clause-resources c = λ t. scans_counted t
