-- `compose::images::composite` meets its contract.
use Rattle.compose.proofs.Composing.{nodes-below, attributes-below, edges-joinable, composed}
use Rattle.compose.proofs.images.composite.Goals as goal

pub images_of-node-requires : goal.images_of-node-requires
images_of-node-requires c = let x = c.requires in (nodes-below x, x.source.limits.nodes, x.middle.limits.nodes)

pub path_images-edge-requires : goal.path_images-edge-requires
path_images-edge-requires c = edges-joinable c.requires

pub images_of-attribute-requires : goal.images_of-attribute-requires
images_of-attribute-requires c = let x = c.requires in (attributes-below x, x.source.limits.attributes, x.middle.limits.attributes)

pub returns : goal.returns
returns c =
    let nodes = c.images_of-node in
    let edges = c.path_images-edge in
    let attributes = c.images_of-attribute in
    composed c.requires (record { node = nodes.result; edge = edges.result; attribute = attributes.result }) nodes.ensures edges.ensures attributes.ensures
