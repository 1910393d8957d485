use Rattle.std.proofs.Common.{refl}
use Rattle.pfc_scan.proofs.words.words_by_letter.Goals as goal

pub returns-in-97-clause-all : goal.returns-in-97-clause-all
returns-in-97-clause-all c = rw c.in-97.is (λ rest. refl)

pub returns-in-98-clause-all : goal.returns-in-98-clause-all
returns-in-98-clause-all c = rw c.in-98.is (λ rest. refl)

pub returns-in-99-clause-all : goal.returns-in-99-clause-all
returns-in-99-clause-all c = rw c.in-99.is (λ rest. refl)

pub returns-in-100-clause-all : goal.returns-in-100-clause-all
returns-in-100-clause-all c = rw c.in-100.is (λ rest. refl)

pub returns-in-101-clause-all : goal.returns-in-101-clause-all
returns-in-101-clause-all c = rw c.in-101.is (λ rest. refl)

pub returns-in-102-clause-all : goal.returns-in-102-clause-all
returns-in-102-clause-all c = rw c.in-102.is (λ rest. refl)

pub returns-in-103-clause-all : goal.returns-in-103-clause-all
returns-in-103-clause-all c = rw c.in-103.is (λ rest. refl)

pub returns-in-105-clause-all : goal.returns-in-105-clause-all
returns-in-105-clause-all c = rw c.in-105.is (λ rest. refl)

pub returns-in-109-clause-all : goal.returns-in-109-clause-all
returns-in-109-clause-all c = rw c.in-109.is (λ rest. refl)

pub returns-in-110-clause-all : goal.returns-in-110-clause-all
returns-in-110-clause-all c = rw c.in-110.is (λ rest. refl)

pub returns-in-111-clause-all : goal.returns-in-111-clause-all
returns-in-111-clause-all c = rw c.in-111.is (λ rest. refl)

pub returns-in-112-clause-all : goal.returns-in-112-clause-all
returns-in-112-clause-all c = rw c.in-112.is (λ rest. refl)

pub returns-in-114-clause-all : goal.returns-in-114-clause-all
returns-in-114-clause-all c = rw c.in-114.is (λ rest. refl)

pub returns-in-115-clause-all : goal.returns-in-115-clause-all
returns-in-115-clause-all c = rw c.in-115.is (λ rest. refl)

pub returns-in-116-clause-all : goal.returns-in-116-clause-all
returns-in-116-clause-all c = rw c.in-116.is (λ rest. refl)

pub returns-in-117-clause-all : goal.returns-in-117-clause-all
returns-in-117-clause-all c = rw c.in-117.is (λ rest. refl)

pub returns-in-118-clause-all : goal.returns-in-118-clause-all
returns-in-118-clause-all c = rw c.in-118.is (λ rest. refl)

pub returns-in-119-clause-all : goal.returns-in-119-clause-all
returns-in-119-clause-all c = rw c.in-119.is (λ rest. refl)
