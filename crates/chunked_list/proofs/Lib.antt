mod ChunkLaws
