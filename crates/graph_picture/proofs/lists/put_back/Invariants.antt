use Rattle.std.proofs.Common.{Contains, take}
use Rattle.graph_picture.specs.Growing.{PutsBack}
use Rattle.graph_picture.proofs.lists.put_back.Given as goal

abbrev pub invariant-loop-m : goal.invariant-loop-m
invariant-loop-m l = PutsBack l.n (Contains (take l.m-index l.list)) l.fn.back l.back
